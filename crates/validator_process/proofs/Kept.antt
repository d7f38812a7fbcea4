-- The log of a process before and after a record is kept, and what is in each file that is left.
use Rattle.std.proofs.Common.{inl, inr, refl, sym, subst, ap, ◌∙◌, arith}
use Rattle.std.specs.Prelude.{◌≡◌, ◌≢◌, ◌⊎◌, ◌+◌, ◌<◌, ℕ, Bool, true, false, is_some, List, [], ◌∷◌, ◌++◌, length, replicate, Option, Some, None, Result, Ok, Err, OnErr, OnOk}
use Rattle.outside.specs.Causes.{Rose}
use Rattle.outside.specs.Lists.{AddsRecord, Journals, KeepsJournals}
use Rattle.disk_log.specs.declared.refusals.LogRefusal.{LogRefusal}
use Rattle.disk_log.specs.declared.refusals.LogRefusal.TheVariants as log
use Rattle.disk_log.specs.Disk.{AreSeen, History, IfTold, IsImage, moments}
use Rattle.disk_log.specs.Keeping.{AppendCause, Appends, LeavesRecords, Opened, end_behind, records_behind, shut_behind, told_lists}
use Rattle.disk_log.specs.Log.{HasOldOrNew}
use Rattle.disk_log.specs.Records.{Record, counted, journals_of, records_to}
use Rattle.disk_log.specs.Running.{AddsExactly, HasRecords, HoldsLists, HoldsTo}
use Rattle.disk_log.specs.SeenLaws.{now-seen}
use Rattle.disk_log.proofs.Listing.{added_to-push}
use Rattle.disk_log.proofs.Reading.{adds, keeps}
use Rattle.disk_log.proofs.Running.{holds-now}
use Rattle.journal_core.specs.declared.records.Record.{Record as Kept}
use Rattle.protocol_spec.proofs.ListLemmas.{front_whole}
use Rattle.protocol_spec.specs.Chain.Words.{IsFront}
use Rattle.lives_law.specs.Files.{IsLeft}
use Rattle.world_spec.specs.Posts.{AddsLeft, MayAddLeft}
use Rattle.world_core.specs.Replies.{spelled_due}
use Rattle.validator_process.specs.Growing.{AddsDue, EachLeft, HasMore, IsWhole, MayAddDue, records_in}
use Rattle.validator_process.specs.Stops.{unkept}

abbrev answered : LogRefusal → Result (Unit {0}) LogRefusal
answered refusal = Err refusal

abbrev Seen : Option History → Type 0
Seen told = IfTold told (λ h. AreSeen (moments h))

-- ---- in each file that is left

pub each_map : {P Q : Option Journals → Type 0} (width : ℕ) (told : Option History) → ((lists : Option Journals) → P lists → Q lists) → EachLeft P width told → EachLeft Q width told
each_map width None f each = tt
each_map {P = P} {Q = Q} width (Some h) f each = λ file left. f (Some (journals_of width (counted file))) (each file left)

pub each_wide : (P : Option Journals → Type 0) (width width' : ℕ) (told : Option History) → width ≡ width' → EachLeft P width told → EachLeft P width' told
each_wide P width width' told same each = subst (λ (n : ℕ). EachLeft P n told) same each

-- the records that count in each file that is left are these
each-counts : (P : Option Journals → Type 0) (h : History) (width : ℕ) (records : List Record) → ((file : List ℕ) → IsLeft h file → counted file ≡ records) → P (Some (journals_of width records)) → EachLeft P width (Some h)
each-counts P h width records are there = λ file left. subst (λ (rs : List Record). P (Some (journals_of width rs))) (sym (are file left)) there

left-counts : (h : History) (records : List Record) → AreSeen (moments h) → LeavesRecords h records → (file : List ℕ) → IsLeft h file → counted file ≡ records
left-counts h records seen leaves file (inl same) = ap counted same ∙ leaves h.now.reads (now-seen h seen)
left-counts h records seen leaves file (inr image) = leaves file image

-- ---- a log of which no append met a fault

pub each_whole : (P : Option Journals → Type 0) (told : Option History) (end width : ℕ) (shut : Bool) → IsWhole told end shut → Seen told → P (told_lists told end width) → EachLeft P width told
each_whole P None end width shut whole seen there = tt
each_whole P (Some h) end width shut whole seen there = each-counts P h width (records_to h.now.reads end) (left-counts h (records_to h.now.reads end) seen whole.left) there

holds-whole : (told : Option History) (end faults : ℕ) → IfTold told (λ h. LeavesRecords h (records_to h.now.reads end)) → Seen told → IfTold told (HoldsTo faults end)
holds-whole None end faults leaves seen = tt
holds-whole (Some h) end faults leaves seen = record { reads = inl (leaves h.now.reads (now-seen h seen)); crash = λ image im. inl (leaves image im) }

pub more_whole : (told : Option History) (end faults : ℕ) (shut : Bool) → IsWhole told end shut → Seen told → HasMore told told end end faults
more_whole told end faults shut whole seen = record { first = front_whole (records_in told end); holds = holds-whole told end faults whole.left seen }

pub whole_opened : (old new : Option History) (end members : ℕ) (shut : Bool) → Opened old new end members → shut ≡ false → IsWhole new end shut
whole_opened old new end members shut opened goes = record { goes = goes; left = at old opened }
  where
    at : (o : Option History) → Opened o new end members → IfTold new (λ h. LeavesRecords h (records_to h.now.reads end))
    at None none = subst (λ (t : Option History). IfTold t (λ h. LeavesRecords h (records_to h.now.reads end))) (sym none) tt
    at (Some h) (n, is, o) = subst (λ (t : Option History). IfTold t (λ h. LeavesRecords h (records_to h.now.reads end))) (sym is) (λ image im. o.between image im ∙ sym o.records)

-- the disk of a log holds its lists
pub held : (told : Option History) (end width faults : ℕ) → IfTold told (HoldsTo faults end) → HoldsLists width faults told (told_lists told end width)
held None end width faults holds = refl
held (Some h) end width faults holds = (records_to h.now.reads end, refl, holds)

-- ---- an append

module _ (end member : ℕ) (bytes : List ℕ) where
  abbrev one : Record
  one = record { member = member; bytes = bytes }

  -- what the log says after it
  left-behind : (answer : Result (Unit {0}) LogRefusal) → answer ≢ answered log.DiskFault → (old new : Option History) → Appends old new end member bytes answer → IfTold new (λ h. LeavesRecords h (records_to h.now.reads (end_behind end (length bytes) answer)))
  left-behind answer isnt None new none = subst (λ (t : Option History). IfTold t (λ h. LeavesRecords h (records_to h.now.reads (end_behind end (length bytes) answer)))) (sym none) tt
  left-behind answer isnt (Some h) new (n, is, a) =
      subst (λ (t : Option History). IfTold t (λ h. LeavesRecords h (records_to h.now.reads (end_behind end (length bytes) answer)))) (sym is) (λ image im. a.between isnt image im ∙ sym a.records)

  front-behind : (answer : Result (Unit {0}) LogRefusal) (old new : Option History) → Appends old new end member bytes answer → IsFront (records_in old end) (records_in new (end_behind end (length bytes) answer))
  front-behind answer None new none = subst (λ (t : Option History). IsFront [] (records_in t (end_behind end (length bytes) answer))) (sym none) (front_whole [])
  front-behind answer (Some h) new (n, is, a) =
      subst (λ (t : Option History). IsFront (records_to h.now.reads end) (records_in t (end_behind end (length bytes) answer))) (sym is)
      (subst (λ (rs : List Record). IsFront (records_to h.now.reads end) rs) (sym a.records) (go answer))
    where
      go : (answer : Result (Unit {0}) LogRefusal) → IsFront (records_to h.now.reads end) (records_behind (records_to h.now.reads end) one answer)
      go (Ok done) = (one ∷ [], refl)
      go (Err refusal) = front_whole (records_to h.now.reads end)

  -- after a fault a file has the record or not
  torn : (h n : History) (file : List ℕ) → AreSeen (moments n) → ((image : List ℕ) → IsImage n.now image → HasOldOrNew (records_to h.now.reads end) one image) → IsLeft n file → HasOldOrNew (records_to h.now.reads end) one file
  torn h n file seen either (inl same) = subst (HasOldOrNew (records_to h.now.reads end) one) (sym same) (either n.now.reads (now-seen n seen))
  torn h n file seen either (inr image) = either file image

  has-either : (h n : History) (faults : ℕ) (file : List ℕ) → 0 < faults → records_to n.now.reads end ≡ records_to h.now.reads end → HasOldOrNew (records_to h.now.reads end) one file → HasRecords faults (records_to n.now.reads end) file
  has-either h n faults file some same (inl old) = inl (old ∙ sym same)
  has-either h n faults file some same (inr more) = inr (some, one, more ∙ ap (λ (rs : List Record). rs ++ one ∷ []) (sym same))

  holds-torn : (old new : Option History) (faults : ℕ) → 0 < faults → Seen new → Appends old new end member bytes (Err log.DiskFault) → IfTold new (HoldsTo faults end)
  holds-torn None new faults some seen none = subst (λ (t : Option History). IfTold t (HoldsTo faults end)) (sym none) tt
  holds-torn (Some h) new faults some seen (n, is, a) =
      let n-seen : AreSeen (moments n) = subst Seen is seen in
      let either : (image : List ℕ) → IsImage n.now image → HasOldOrNew (records_to h.now.reads end) one image = holds-now (HasOldOrNew (records_to h.now.reads end) one) h n a.any_moment in
      subst (λ (t : Option History). IfTold t (HoldsTo faults end)) (sym is) (record {
        reads = has-either h n faults n.now.reads some a.records (either n.now.reads (now-seen n n-seen));
        crash = λ image im. has-either h n faults image some a.records (either image im);
      })

  abbrev Grows : Option History → ℕ → Option Journals → Type 0
  Grows old width lists = AddsRecord (told_lists old end width) lists member bytes ⊎ KeepsJournals (told_lists old end width) lists

  grows-by : (h : History) (width : ℕ) (file : List ℕ) → HasOldOrNew (records_to h.now.reads end) one file → Grows (Some h) width (Some (journals_of width (counted file)))
  grows-by h width file (inl old) = inr (ap (λ (rs : List Record). Some (journals_of width rs)) old)
  grows-by h width file (inr more) =
      inl (ap (λ (rs : List Record). Some (journals_of width rs)) more ∙ ap (λ (l : Journals). Some l) (added_to-push (replicate width []) (records_to h.now.reads end) one))

  each-torn : (old new : Option History) (width : ℕ) → Seen new → Appends old new end member bytes (Err log.DiskFault) → EachLeft (Grows old width) width new
  each-torn None new width seen none = subst (EachLeft (Grows None width) width) (sym none) tt
  each-torn (Some h) new width seen (n, is, a) =
      subst (EachLeft (Grows (Some h) width) width) (sym is)
      (λ file left. grows-by h width file (torn h n file (subst Seen is seen) (holds-now (HasOldOrNew (records_to h.now.reads end) one) h n a.any_moment) left))

  each-same : (old new : Option History) (refusal : LogRefusal) (width : ℕ) → answered refusal ≢ answered log.DiskFault → Seen new → Appends old new end member bytes (answered refusal) → EachLeft (Grows old width) width new
  each-same None new refusal width isnt seen none = subst (EachLeft (Grows None width) width) (sym none) tt
  each-same (Some h) new refusal width isnt seen (n, is, a) =
      subst (EachLeft (Grows (Some h) width) width) (sym is)
      (each-counts (Grows (Some h) width) n width (records_to h.now.reads end) (left-counts n (records_to h.now.reads end) (subst Seen is seen) (a.between isnt)) (inr refl))

  exactly : (old new : Option History) (end' : ℕ) → Appends old new end member bytes (Ok tt) → end' ≡ end + 9 + length bytes → AddsExactly old new end end' one (Ok tt)
  exactly None new end' none there = none
  exactly (Some h) new end' (n, is, a) there = (n, is, ap (λ (e : ℕ). records_to n.now.reads e) there ∙ a.records)

  -- ---- of a log of which no append met a fault

  module _ (old new : Option History) (end' : ℕ) (shut shut' : Bool) (answer : Result (Unit {0}) LogRefusal) (whole : IsWhole old end shut) (appends : shut ≡ false → Appends old new end member bytes answer) (there : end' ≡ end_behind end (length bytes) answer) where
    abbrev did : Appends old new end member bytes answer
    did = appends whole.goes

    pub whole_on : shut' ≡ shut_behind shut answer → OnOk (unkept answer) (IsWhole new end' shut')
    whole_on shuts = go answer did there shuts
      where
        go : (a : Result (Unit {0}) LogRefusal) → Appends old new end member bytes a → end' ≡ end_behind end (length bytes) a → shut' ≡ shut_behind shut a → OnOk (unkept a) (IsWhole new end' shut')
        go (Ok done) d t s = record { goes = s ∙ whole.goes; left = subst (λ (e : ℕ). IfTold new (λ h. LeavesRecords h (records_to h.now.reads e))) (sym t) (left-behind (Ok done) (λ is. cc) old new d) }
        go (Err log.DiskFault) d t s = tt
        go (Err log.Shut) d t s = tt
        go (Err log.Full) d t s = tt
        go (Err log.OutOfMemory) d t s = tt

    pub exactly_on : OnOk (unkept answer) (AddsExactly old new end end' one (Ok tt))
    exactly_on = go answer did there
      where
        go : (a : Result (Unit {0}) LogRefusal) → Appends old new end member bytes a → end' ≡ end_behind end (length bytes) a → OnOk (unkept a) (AddsExactly old new end end' one (Ok tt))
        go (Ok done) d t = exactly old new end' d t
        go (Err log.DiskFault) d t = tt
        go (Err log.Shut) d t = tt
        go (Err log.Full) d t = tt
        go (Err log.OutOfMemory) d t = tt

    pub more_on : (faults faults' : ℕ) → AppendCause faults faults' answer → Seen new → HasMore old new end end' faults'
    more_on faults faults' cause seen = record {
      first = subst (λ (e : ℕ). IsFront (records_in old end) (records_in new e)) (sym there) (front-behind answer old new did);
      holds = subst (λ (e : ℕ). IfTold new (HoldsTo faults' e)) (sym there) (go answer did cause);
    }
      where
        go : (a : Result (Unit {0}) LogRefusal) → Appends old new end member bytes a → AppendCause faults faults' a → IfTold new (HoldsTo faults' (end_behind end (length bytes) a))
        go (Ok done) d c = holds-whole new (end_behind end (length bytes) (Ok done)) faults' (left-behind (Ok done) (λ is. cc) old new d) seen
        go (Err log.DiskFault) d c = holds-torn old new faults' (let rose : Rose faults faults' = c.fault refl in omega (arith, rose)) seen d
        go (Err log.Shut) d c = holds-whole new end faults' (left-behind (Err log.Shut) (λ is. cc) old new d) seen
        go (Err log.Full) d c = holds-whole new end faults' (left-behind (Err log.Full) (λ is. cc) old new d) seen
        go (Err log.OutOfMemory) d c = holds-whole new end faults' (left-behind (Err log.OutOfMemory) (λ is. cc) old new d) seen

    module _ (width width' : ℕ) (many : width' ≡ width) where
      pub adds_on : OnOk (unkept answer) (AddsRecord (told_lists old end width) (told_lists new end' width') member bytes)
      adds_on = go answer did there
        where
          go : (a : Result (Unit {0}) LogRefusal) → Appends old new end member bytes a → end' ≡ end_behind end (length bytes) a → OnOk (unkept a) (AddsRecord (told_lists old end width) (told_lists new end' width') member bytes)
          go (Ok done) d t = adds old new end end' member bytes width width' d t many
          go (Err log.DiskFault) d t = tt
          go (Err log.Shut) d t = tt
          go (Err log.Full) d t = tt
          go (Err log.OutOfMemory) d t = tt

      pub keeps_on : OnErr (unkept answer) (KeepsJournals (told_lists old end width) (told_lists new end' width'))
      keeps_on = go answer did there
        where
          go : (a : Result (Unit {0}) LogRefusal) → Appends old new end member bytes a → end' ≡ end_behind end (length bytes) a → OnErr (unkept a) (KeepsJournals (told_lists old end width) (told_lists new end' width'))
          go (Ok done) d t = tt
          go (Err log.DiskFault) d t = keeps old new end end' member bytes width width' log.DiskFault d t many
          go (Err log.Shut) d t = keeps old new end end' member bytes width width' log.Shut d t many
          go (Err log.Full) d t = keeps old new end end' member bytes width width' log.Full d t many
          go (Err log.OutOfMemory) d t = keeps old new end end' member bytes width width' log.OutOfMemory d t many

      pub each_on : Seen new → OnErr (unkept answer) (EachLeft (Grows old width) width' new)
      each_on seen = subst (λ (n : ℕ). OnErr (unkept answer) (EachLeft (Grows old width) n new)) (sym many) (go answer did)
        where
          go : (a : Result (Unit {0}) LogRefusal) → Appends old new end member bytes a → OnErr (unkept a) (EachLeft (Grows old width) width new)
          go (Ok done) d = tt
          go (Err log.DiskFault) d = each-torn old new width seen d
          go (Err log.Shut) d = each-same old new log.Shut width (λ is. cc) seen d
          go (Err log.Full) d = each-same old new log.Full width (λ is. cc) seen d
          go (Err log.OutOfMemory) d = each-same old new log.OutOfMemory width (λ is. cc) seen d

-- ---- the record that is due

pub adds_left : (before now : Option Journals) (m : ℕ) (due : Option (List ℕ)) (x : Option Kept) → due ≡ spelled_due x → AddsDue before now m due → AddsLeft before now m x
adds_left before now m due None is adds = subst (AddsDue before now m) is adds
adds_left before now m due (Some x) is adds = subst (AddsDue before now m) is adds

pub may_add_left : (before now : Option Journals) (m : ℕ) (due : Option (List ℕ)) (x : Option Kept) → due ≡ spelled_due x → MayAddDue before now m due → MayAddLeft before now m x
may_add_left before now m due x is (inl adds) = inl (adds_left before now m due x is adds)
may_add_left before now m due x is (inr same) = inr same

pub is_owed : (due : Option (List ℕ)) (x : Option Kept) → due ≡ spelled_due x → is_some due ≡ true → is_some x ≡ true
is_owed due None is owed = absurd (let e : false ≡ true = ap is_some (sym is) ∙ owed in cc)
is_owed due (Some x) is owed = refl
