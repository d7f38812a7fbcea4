-- The log of a call: what the disk holds after each append and read.
use Rattle.std.proofs.Common.{◌≡◌, ◌≢◌, ◌⊎◌, ◌↔◌, inl, inr, ℕ, ◌+◌, ◌<◌, ◌≤◌, Bool, true, false, cond, List, [], ◌∷◌, ◌++◌, length, refl, sym, ◌∙◌, ap, subst, arith, Option, Some, None, Result, Ok, Err}
use Rattle.std.proofs.lemmas.Bool.{lt-ltb}
use Rattle.std.specs.Prelude.{is_some, nat_lt, slice_index}
use Rattle.outside.specs.Causes.{Rose}
use Rattle.outside.specs.Lists.{Journals}
use Rattle.disk_log.specs.declared.refusals.LogRefusal.{LogRefusal}
use Rattle.disk_log.specs.declared.refusals.LogRefusal.TheVariants as log
use Rattle.disk_log.specs.Disk.{History, moments, AreSeen, IsImage, IfTold}
use Rattle.disk_log.specs.Keeping.{AppendCause, Appends, Opened, counts_behind, end_behind, records_behind, told_lists}
use Rattle.disk_log.specs.Log.{HasOldOrNew}
use Rattle.disk_log.specs.Records.{Record, bad_member, counted, journals_of, records_to}
use Rattle.disk_log.specs.SeenLaws.{now-seen}
use Rattle.disk_log.proofs.Running.{counts-many, holds-now}
use Rattle.committee_core.specs.Calling.{HasGrown, HasMetFault, IsCalling, IsNextOf, IsOfLog, LeavesOfLog, record_of, unfinished_behind}
use Rattle.committee_core.specs.InFile.{HoldsOfCall, IsOfCall, LeavesOfCall, most_members}
use Rattle.committee_core.specs.declared.call_log.Unfinished.{Unfinished}
use Rattle.committee_core.proofs.CallLists.{grown-on, grown-same}

-- ---- whose the records are

known-pushed : (members at : ℕ) (records : List Record) (r : Record) → bad_member members at records ≡ None → r.member < members → bad_member members at (records ++ r ∷ []) ≡ None
known-pushed members at [] r known lt = ap (λ (b : Bool). cond b None (Some at)) (lt-ltb r.member members lt)
known-pushed members at (q ∷ records) r known lt = go (nat_lt q.member members) known (λ k. known-pushed members (at + 9 + length q.bytes) records r k lt)
  where
    go : (b : Bool) → cond b (bad_member members (at + 9 + length q.bytes) records) (Some at) ≡ None
        → (bad_member members (at + 9 + length q.bytes) records ≡ None → bad_member members (at + 9 + length q.bytes) (records ++ r ∷ []) ≡ None)
        → cond b (bad_member members (at + 9 + length q.bytes) (records ++ r ∷ [])) (Some at) ≡ None
    go true k more = more k
    go false k more = absurd (cc)

abbrev AreKnown : List Record → Type 0
AreKnown records = bad_member most_members 0 records ≡ None

known-behind : (records : List Record) (r : Record) (result : Result (Unit {0}) LogRefusal) → AreKnown records → r.member < most_members → AreKnown (records_behind records r result)
known-behind records r (Ok done) known lt = known-pushed most_members 0 records r known lt
known-behind records r (Err refusal) known lt = known

-- ---- what a disk holds

-- the records up to the gate are of known members, and the disk holds them
abbrev Stands : ℕ → Option Unfinished → History → Type 0
Stands end u h = AreKnown (records_to h.now.reads end) × LeavesOfLog (records_to h.now.reads end) u h

same-records : (records : List Record) (u : Option Unfinished) (file : List ℕ) → AreKnown records → counted file ≡ records → IsOfLog records u file
same-records records u file known is = record { counts = inl is; members = ap (bad_member most_members 0) is ∙ known }

-- ---- opening

stands-opened : (old new : Option History) (end : ℕ) → Opened old new end most_members → IfTold new (Stands end None)
stands-opened None new end none = subst (λ (t : Option History). IfTold t (Stands end None)) (sym none) tt
stands-opened (Some h) new end (n, is, o) =
    let known : AreKnown (records_to n.now.reads end) = ap (bad_member most_members 0) o.records ∙ o.known in
    subst (λ (t : Option History). IfTold t (Stands end None)) (sym is) (known, λ image im. same-records (records_to n.now.reads end) None image known (o.between image im ∙ sym o.records))

-- ---- appending

module _ (end : ℕ) (r : Record) (u : Option Unfinished) (result : Result (Unit {0}) LogRefusal) (old new : History) (known : AreKnown (records_to old.now.reads end)) (lt : r.member < most_members) where
  abbrev behind : List Record
  behind = records_behind (records_to old.now.reads end) r result

  abbrev gate : ℕ
  gate = end_behind end (length r.bytes) result

  still-known : records_to new.now.reads gate ≡ behind → AreKnown (records_to new.now.reads gate)
  still-known is = ap (bad_member most_members 0) is ∙ known-behind (records_to old.now.reads end) r result known lt

  stands-behind : records_to new.now.reads gate ≡ behind → ((image : List ℕ) → IsImage new.now image → counted image ≡ behind) → Stands gate u new
  stands-behind is between = (still-known is, λ image im. same-records (records_to new.now.reads gate) u image (still-known is) (between image im ∙ sym is))

module _ (end : ℕ) (begun : Unfinished) (old new : History) (known : AreKnown (records_to old.now.reads end)) (lt : begun.member < most_members) where
  either-way : records_to new.now.reads end ≡ records_to old.now.reads end → (image : List ℕ) → HasOldOrNew (records_to old.now.reads end) (record_of begun) image → IsOfLog (records_to new.now.reads end) (Some begun) image
  either-way is image (inl before) = same-records (records_to new.now.reads end) (Some begun) image (ap (bad_member most_members 0) is ∙ known) (before ∙ sym is)
  either-way is image (inr more) = record {
    counts = inr (begun, refl, more ∙ ap (λ (l : List Record). l ++ record_of begun ∷ []) (sym is));
    members = ap (bad_member most_members 0) more ∙ known-pushed most_members 0 (records_to old.now.reads end) (record_of begun) known lt;
  }

module _ (end : ℕ) (begun : Unfinished) (lt : begun.member < most_members) where
  abbrev one : Record
  one = record_of begun

  abbrev StandsAt : ℕ → Option Unfinished → Option History → Type 0
  StandsAt gate u told = IfTold told (Stands gate u)

  goes : (u : Option Unfinished) (result : Result (Unit {0}) LogRefusal) → result ≢ Err log.DiskFault → (old new : Option History) → Appends old new end begun.member begun.bytes result → StandsAt end None old → StandsAt (end_behind end (length begun.bytes) result) u new
  goes u result isnt None new none stands = subst (StandsAt (end_behind end (length begun.bytes) result) u) (sym none) tt
  goes u result isnt (Some h) new (n, is, a) stands =
      subst (StandsAt (end_behind end (length begun.bytes) result) u) (sym is) (stands-behind end one u result h n stands.0 lt a.records (a.between isnt))

  stops : (old new : Option History) → Appends old new end begun.member begun.bytes (Err log.DiskFault) → StandsAt end None old → StandsAt end (Some begun) new
  stops None new none stands = subst (StandsAt end (Some begun)) (sym none) tt
  stops (Some h) new (n, is, a) stands =
      subst (StandsAt end (Some begun)) (sym is)
      (ap (bad_member most_members 0) a.records ∙ stands.0, λ image im. either-way end begun h n stands.0 lt a.records image (holds-now (HasOldOrNew (records_to h.now.reads end) one) h n a.any_moment image im))

  stays : (old new : Option History) → new ≡ old → StandsAt end None old → StandsAt end None new
  stays old new same stands = subst (StandsAt end None) (sym same) stands

  appended : (old new : Option History) (shut : Bool) (result : Result (Unit {0}) LogRefusal) → (shut ≡ false → Appends old new end begun.member begun.bytes result) → (result ≡ Err log.Shut) ↔ (shut ≡ true) → (shut ≡ true → new ≡ old)
      → StandsAt end None old → StandsAt (end_behind end (length begun.bytes) result) (unfinished_behind begun result) new
  appended old new true (Ok done) appends shuts same stands = absurd (let e = shuts.1 refl in cc)
  appended old new true (Err log.Shut) appends shuts same stands = stays old new (same refl) stands
  appended old new true (Err log.Full) appends shuts same stands = absurd (let e = shuts.1 refl in cc)
  appended old new true (Err log.OutOfMemory) appends shuts same stands = absurd (let e = shuts.1 refl in cc)
  appended old new true (Err log.DiskFault) appends shuts same stands = absurd (let e = shuts.1 refl in cc)
  appended old new false (Ok done) appends shuts same stands = goes None (Ok done) (λ is. cc) old new (appends refl) stands
  appended old new false (Err log.Shut) appends shuts same stands = absurd (let e = shuts.0 refl in cc)
  appended old new false (Err log.Full) appends shuts same stands = goes None (Err log.Full) (λ is. cc) old new (appends refl) stands
  appended old new false (Err log.OutOfMemory) appends shuts same stands = goes None (Err log.OutOfMemory) (λ is. cc) old new (appends refl) stands
  appended old new false (Err log.DiskFault) appends shuts same stands = stops old new (appends refl) stands

-- ---- the log of a call

stands-in : (opened : ℕ) (first : Option Journals) (told : Option History) (faults end : ℕ) (counts : List ℕ) (u : Option Unfinished) → IsCalling opened first told faults end counts u → IfTold told (Stands end u)
stands-in opened first None faults end counts u it = tt
stands-in opened first (Some h) faults end counts u it = (it.known, it.left)

calling : (opened : ℕ) (first : Option Journals) (told : Option History) (faults end : ℕ) (counts : List ℕ) (u : Option Unfinished) → opened ≤ faults → length counts ≡ most_members → IfTold told (Stands end u) → IsNextOf counts u → HasMetFault opened faults u
    → HasGrown first (told_lists told end (length counts)) → IsCalling opened first told faults end counts u
calling opened first None faults end counts u le size stands next met grown = record { later = le; as_many = size; known = tt; left = tt; next = next; met = met; grown = grown }
calling opened first (Some h) faults end counts u le size stands next met grown = record { later = le; as_many = size; known = stands.0; left = stands.1; next = next; met = met; grown = grown }

pub calling_opened : (old new : Option History) (opened end : ℕ) (counts : List ℕ) → Opened old new end most_members → length counts ≡ most_members → IsCalling opened (told_lists new end (length counts)) new opened end counts None
calling_opened old new opened end counts is size =
    calling opened (told_lists new end (length counts)) new opened end counts None (omega arith) size (stands-opened old new end is) tt tt (grown-same (told_lists new end (length counts)))

-- the unfinished record is the next one
next-behind : (counts counts' : List ℕ) (begun : Unfinished) (result : Result (Unit {0}) LogRefusal) → begun.member < length counts → begun.count ≡ slice_index counts begun.member + 1 → counts' ≡ counts_behind counts begun.member result
    → IsNextOf counts' (unfinished_behind begun result)
next-behind counts counts' begun (Ok done) lt next is = tt
next-behind counts counts' begun (Err log.Shut) lt next is = tt
next-behind counts counts' begun (Err log.Full) lt next is = tt
next-behind counts counts' begun (Err log.OutOfMemory) lt next is = tt
next-behind counts counts' begun (Err log.DiskFault) lt next is = subst (λ (cs : List ℕ). IsNextOf cs (Some begun)) (sym is) (lt, next)

met-behind : (opened faults faults' : ℕ) (begun : Unfinished) (result : Result (Unit {0}) LogRefusal) → opened ≤ faults → AppendCause faults faults' result → HasMetFault opened faults' (unfinished_behind begun result)
met-behind opened faults faults' begun (Ok done) le cause = tt
met-behind opened faults faults' begun (Err log.Shut) le cause = tt
met-behind opened faults faults' begun (Err log.Full) le cause = tt
met-behind opened faults faults' begun (Err log.OutOfMemory) le cause = tt
met-behind opened faults faults' begun (Err log.DiskFault) le cause = let rose : Rose faults faults' = cause.fault refl in omega (arith, le, rose)

met-still : (opened faults faults' : ℕ) (u : Option Unfinished) → faults ≤ faults' → HasMetFault opened faults u → HasMetFault opened faults' u
met-still opened faults faults' None le met = tt
met-still opened faults faults' (Some u) le met = omega (arith, le, met)

module _ (opened : ℕ) (first : Option Journals) (old new : Option History) (faults faults' end end' : ℕ) (counts counts' : List ℕ) (begun : Unfinished) (shut : Bool) (result : Result (Unit {0}) LogRefusal) where
  pub calling_on : IsCalling opened first old faults end counts None → begun.member < length counts → begun.count ≡ slice_index counts begun.member + 1
      → (shut ≡ false → Appends old new end begun.member begun.bytes result) → (result ≡ Err log.Shut) ↔ (shut ≡ true) → AppendCause faults faults' result → (shut ≡ true → new ≡ old) → end' ≡ end_behind end (length begun.bytes) result
      → counts' ≡ counts_behind counts begun.member result → IsCalling opened first new faults' end' counts' (unfinished_behind begun result)
  calling_on was lt next appends shuts cause same there many =
      let known : begun.member < most_members = subst (λ (n : ℕ). begun.member < n) was.as_many lt in
      let size : length counts' ≡ length counts = counts-many counts begun.member result counts' many in
      calling opened first new faults' end' counts' (unfinished_behind begun result) (let a = was.later in let b = cause.later in omega (arith, a, b)) (size ∙ was.as_many)
      (subst (λ (e : ℕ). IfTold new (Stands e (unfinished_behind begun result))) (sym there)
      (appended end begun known old new shut result appends shuts same (stands-in opened first old faults end counts None was)))
      (next-behind counts counts' begun result lt next many) (met-behind opened faults faults' begun result was.later cause)
      (grown-on first old new end end' begun.member begun.bytes (length counts) (length counts') shut result appends shuts same there size was.grown)

-- an append to a log that has no unfinished record
module _ (opened : ℕ) (first : Option Journals) (old new : Option History) (faults faults' end end' : ℕ) (counts counts' : List ℕ) (member kept : ℕ) (bytes : List ℕ) (shut : Bool) (result : Result (Unit {0}) LogRefusal) where
  abbrev now-begun : Unfinished
  now-begun = record { member = member; count = kept + 1; bytes = bytes }

  pub appended_calling : (u u' : Option Unfinished) (begun : Unfinished) (there : Bool) → begun ≡ now-begun → kept ≡ slice_index counts member → member < length counts → there ≡ is_some u → there ≡ false → u' ≡ unfinished_behind begun result
      → (shut ≡ false → Appends old new end member bytes result) → (result ≡ Err log.Shut) ↔ (shut ≡ true) → AppendCause faults faults' result → (shut ≡ true → new ≡ old) → end' ≡ end_behind end (length bytes) result
      → counts' ≡ counts_behind counts member result → IsCalling opened first old faults end counts u → IsCalling opened first new faults' end' counts' u'
  appended_calling None u' begun there is same lt none isnt left appends shuts cause stays gate many was =
      subst (λ (u : Option Unfinished). IsCalling opened first new faults' end' counts' u) (sym (left ∙ ap (λ (b : Unfinished). unfinished_behind b result) is))
      (calling_on opened first old new faults faults' end end' counts counts' now-begun shut result was lt (ap (λ (n : ℕ). n + 1) same) appends shuts cause stays gate many)
  appended_calling (Some u) u' begun there is same lt none isnt left appends shuts cause stays gate many was = absurd (let e : true ≡ false = sym none ∙ isnt in cc)

pub calling_still : (opened : ℕ) (first : Option Journals) (old new : Option History) (faults faults' end end' : ℕ) (counts counts' : List ℕ) (u : Option Unfinished) → IsCalling opened first old faults end counts u → new ≡ old → faults ≤ faults' → end' ≡ end → counts' ≡ counts
    → IsCalling opened first new faults' end' counts' u
calling_still opened first old new faults faults' end end' counts counts' u was same le there size =
    subst (λ (cs : List ℕ). IsCalling opened first new faults' end' cs u) (sym size)
    (subst (λ (e : ℕ). IsCalling opened first new faults' e counts u) (sym there)
    (subst (λ (t : Option History). IsCalling opened first t faults' end counts u) (sym same)
    (calling opened first old faults' end counts u (let a = was.later in omega (arith, a, le)) was.as_many (stands-in opened first old faults end counts u was) was.next (met-still opened faults faults' u le was.met) was.grown)))

-- ---- the disk after a call

of-call : (opened faults : ℕ) (records : List Record) (u : Option Unfinished) (file : List ℕ) → HasMetFault opened faults u → IsOfLog records u file → IsOfCall opened faults records file
of-call opened faults records u file met it = record { counts = go u met it.counts; members = it.members }
  where
    go : (u : Option Unfinished) → HasMetFault opened faults u → (counted file ≡ records) ⊎ ((more : Unfinished) × (u ≡ Some more) × (counted file ≡ records ++ record_of more ∷ []))
        → (counted file ≡ records) ⊎ (Rose opened faults × (more : Record) × (counted file ≡ records ++ more ∷ []))
    go u met (inl same) = inl same
    go None met (inr (more, is, counts)) = absurd (cc)
    go (Some u) met (inr (more, is, counts)) = inr (met, record_of more, counts)

pub call_holds : (opened : ℕ) (first : Option Journals) (told : Option History) (faults end : ℕ) (counts : List ℕ) (u : Option Unfinished) → IsCalling opened first told faults end counts u → IfTold told (λ h. AreSeen (moments h))
    → HoldsOfCall opened faults told (told_lists told end (length counts))
call_holds opened first None faults end counts u it seen = refl
call_holds opened first (Some h) faults end counts u it seen =
    let leaves : LeavesOfCall opened faults (records_to h.now.reads end) h = λ image im. of-call opened faults (records_to h.now.reads end) u image it.met (it.left image im) in
    (records_to h.now.reads end, ap (λ (n : ℕ). Some (journals_of n (records_to h.now.reads end))) it.as_many, leaves h.now.reads (now-seen h seen), leaves)
