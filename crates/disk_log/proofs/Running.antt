-- The log of a run: what a crash leaves after each call.
use Rattle.std.proofs.Common.{◌≡◌, ◌≢◌, ◌⊎◌, ◌↔◌, inl, inr, ℕ, ◌+◌, ◌<◌, ◌≤◌, Bool, true, false, List, [], ◌∷◌, ◌++◌, length, length-set, get_or, refl, sym, ◌∙◌, ap, subst, arith, Option, Some, None, Result, Ok, Err}
use Rattle.outside.specs.Causes.{Rose}
use Rattle.outside.specs.Lists.{Journals, AddsRecord, Appended, KeepsJournals}
use Rattle.disk_log.specs.declared.moment.Moment.{Moment}
use Rattle.disk_log.specs.declared.refusals.LogRefusal.{LogRefusal}
use Rattle.disk_log.specs.declared.refusals.LogRefusal.TheVariants as log
use Rattle.disk_log.specs.Disk.{History, moments, AreSeen, EachImage, IsImage, IfTold, LeavesOnly}
use Rattle.disk_log.specs.Keeping.{AppendCause, Appends, NotOpened, Opened, OpensOnly, counts_behind, end_behind, records_behind, shut_behind, told_lists}
use Rattle.disk_log.specs.Log.{HasOldOrNew}
use Rattle.disk_log.specs.Records.{Record, counted, journals_of, records_to}
use Rattle.disk_log.specs.Running.{AddsExactly, HasRecords, HoldsLists, Holds, HoldsTo, IsRunning, IsUnchanged, LeavesThese, Unchanged, lists_in, records_on, run_answer}
use Rattle.disk_log.proofs.Reading.{adds, keeps, kept-as-was}
use Rattle.disk_log.specs.SeenLaws.{now-seen}

-- ---- the last moment of a call

abbrev last : Moment → List Moment → Moment
last m [] = m
last m (n ∷ ms) = last n ms

last-append : (m : Moment) (before : List Moment) (n : Moment) (ms : List Moment) → last m (before ++ n ∷ ms) ≡ last n ms
last-append m [] n ms = refl
last-append m (b ∷ before) n ms = last-append b before n ms

each-last : (P : List ℕ → Type 0) (m : Moment) (ms : List Moment) → EachImage P (m ∷ ms) → (image : List ℕ) → IsImage (last m ms) image → P image
each-last P m [] each image is = each.0 image is
each-last P m (n ∷ ms) each image is = each-last P n ms each.1 image is

regroup : (past : List Moment) (m : Moment) (more : List Moment) → (past ++ m ∷ []) ++ more ≡ past ++ m ∷ more
regroup [] m more = refl
regroup (p ∷ past) m more = ap (λ (l : List Moment). p ∷ l) (regroup past m more)

-- what holds of each file that a crash may leave at a moment of a call holds of those that it may leave now
pub holds-now : (P : List ℕ → Type 0) (old new : History) → LeavesOnly P old new → (image : List ℕ) → IsImage new.now image → P image
holds-now P old new leaves image is =
    let same : last old.now (moments new) ≡ last old.now (old.past ++ old.now ∷ leaves.more) = ap (last old.now) (leaves.is ∙ regroup old.past old.now leaves.more) in
    let there : new.now ≡ last old.now leaves.more = sym (last-append old.now new.past new.now []) ∙ same ∙ last-append old.now old.past old.now leaves.more in
    each-last P old.now leaves.more leaves.each image (subst (λ (m : Moment). IsImage m image) there is)

-- ---- opening

pub running_opened : (old new : Option History) (faults end members : ℕ) (shut : Bool) → Opened old new end members → shut ≡ false → IsRunning new faults end shut
running_opened old new faults end members shut opened isnt = record { left = left old opened; stopped = λ is. absurd (let e : true ≡ false = sym is ∙ isnt in cc) }
  where
    left : (old : Option History) → Opened old new end members → IfTold new (λ h. LeavesThese faults (records_to h.now.reads end) h)
    left None none = subst (λ (o : Option History). IfTold o (λ h. LeavesThese faults (records_to h.now.reads end) h)) (sym none) tt
    left (Some h) (n, is, o) = subst (λ (o : Option History). IfTold o (λ h. LeavesThese faults (records_to h.now.reads end) h)) (sym is) (λ image im. inl (o.between image im ∙ sym o.records))

-- the records that count are those of before
from-synced : (h n : History) → OpensOnly h n → AreSeen (moments n) → IsUnchanged h n
from-synced h n (synced, settles, leaves) seen =
    let here : (image : List ℕ) → IsImage n.now image → counted image ≡ counted h.now.reads = holds-now (λ c. counted c ≡ counted h.now.reads) synced n leaves in
    record { reads = here n.now.reads (now-seen n seen); crash = inr here }

pub unchanged_opened : (old new : Option History) (end members : ℕ) → Opened old new end members → IfTold new (λ h. AreSeen (moments h)) → Unchanged old new
unchanged_opened None new end members none seen = none
unchanged_opened (Some h) new end members (n, is, o) seen = (n, is, from-synced h n o.any_moment (subst (λ (t : Option History). IfTold t (λ h. AreSeen (moments h))) is seen))

pub unchanged_refused : (old new : Option History) → NotOpened old new → IfTold new (λ h. AreSeen (moments h)) → Unchanged old new
unchanged_refused None new none seen = none
unchanged_refused (Some h) new (inl same) seen = (h, same, record { reads = refl; crash = inl refl })
unchanged_refused (Some h) new (inr (n, is, opens)) seen = (n, is, from-synced h n opens (subst (λ (t : Option History). IfTold t (λ h. AreSeen (moments h))) is seen))

pub lists_opened : (old new : Option History) (end members width : ℕ) → Opened old new end members → width ≡ members → told_lists new end width ≡ lists_in members old
lists_opened None new end members width none same = ap (λ (t : Option History). told_lists t end width) none
lists_opened (Some h) new end members width (n, is, o) same =
    ap (λ (t : Option History). told_lists t end width) is
    ∙ ap (λ (k : ℕ). Some (journals_of k (records_to n.now.reads end))) same
    ∙ ap (λ (l : List Record). Some (journals_of members l)) o.records

-- ---- appending

pub left-on : (old new : Option History) (faults end member : ℕ) (bytes : List ℕ) (result : Result (Unit {0}) LogRefusal) → result ≢ Err log.DiskFault → Appends old new end member bytes result → IfTold new (λ h. LeavesThese faults (records_to h.now.reads (end_behind end (length bytes) result)) h)
left-on None new faults end member bytes result isnt none = subst (λ (o : Option History). IfTold o (λ h. LeavesThese faults (records_to h.now.reads (end_behind end (length bytes) result)) h)) (sym none) tt
left-on (Some h) new faults end member bytes result isnt (n, is, a) =
    subst (λ (o : Option History). IfTold o (λ h. LeavesThese faults (records_to h.now.reads (end_behind end (length bytes) result)) h)) (sym is) (λ image im. inl (a.between isnt image im ∙ sym a.records))

pub left-shut : (old new : Option History) (faults end member : ℕ) (bytes : List ℕ) → 0 < faults → Appends old new end member bytes (Err log.DiskFault) → IfTold new (λ h. LeavesThese faults (records_to h.now.reads end) h)
left-shut None new faults end member bytes some none = subst (λ (o : Option History). IfTold o (λ h. LeavesThese faults (records_to h.now.reads end) h)) (sym none) tt
left-shut (Some h) new faults end member bytes some (n, is, a) =
    let r : Record = record { member = member; bytes = bytes } in
    let either : (image : List ℕ) → HasOldOrNew (records_to h.now.reads end) r image → HasRecords faults (records_to n.now.reads end) image = λ image it. choice image it in
    subst (λ (o : Option History). IfTold o (λ h. LeavesThese faults (records_to h.now.reads end) h)) (sym is) (λ image im. either image (holds-now (HasOldOrNew (records_to h.now.reads end) r) h n a.any_moment image im))
  where
    choice : (image : List ℕ) → HasOldOrNew (records_to h.now.reads end) (record { member = member; bytes = bytes }) image → HasRecords faults (records_to n.now.reads end) image
    choice image (inl old) = inl (old ∙ sym a.records)
    choice image (inr new) = inr (some, record { member = member; bytes = bytes }, new ∙ ap (λ (l : List Record). l ++ record { member = member; bytes = bytes } ∷ []) (sym a.records))

more-faults : (faults faults' : ℕ) (records : List Record) (file : List ℕ) → faults ≤ faults' → HasRecords faults records file → HasRecords faults' records file
more-faults faults faults' records file le (inl same) = inl same
more-faults faults faults' records file le (inr more) = inr (omega (arith, le, more.0), more.1, more.2)

stays-left : (old new : Option History) (faults faults' end : ℕ) → new ≡ old → faults ≤ faults' → IfTold old (λ h. LeavesThese faults (records_to h.now.reads end) h) → IfTold new (λ h. LeavesThese faults' (records_to h.now.reads end) h)
stays-left None new faults faults' end same le left = subst (λ (o : Option History). IfTold o (λ h. LeavesThese faults' (records_to h.now.reads end) h)) (sym same) tt
stays-left (Some h) new faults faults' end same le left = subst (λ (o : Option History). IfTold o (λ h. LeavesThese faults' (records_to h.now.reads end) h)) (sym same) (λ image is. more-faults faults faults' (records_to h.now.reads end) image le (left image is))

module _ (old new : Option History) (faults faults' end member : ℕ) (bytes : List ℕ) (le : faults ≤ faults') where
  abbrev Running : ℕ → Bool → Type 0
  Running = IsRunning new faults'

  -- a log that is shut stays as it is
  stands : IsRunning old faults end true → new ≡ old → Running end true
  stands was same = record { left = stays-left old new faults faults' end same le was.left; stopped = λ is. let some : 0 < faults = was.stopped refl in omega (arith, some, le) }

  goes : (result : Result (Unit {0}) LogRefusal) → result ≢ Err log.DiskFault → Appends old new end member bytes result → Running (end_behind end (length bytes) result) false
  goes result isnt appends = record { left = left-on old new faults' end member bytes result isnt appends; stopped = λ is. absurd (cc) }

  stops : Rose faults faults' → Appends old new end member bytes (Err log.DiskFault) → Running end true
  stops rose appends =
      let some : 0 < faults' = omega (arith, rose) in
      record { left = left-shut old new faults' end member bytes some appends; stopped = λ is. some }

  behind : (shut : Bool) (result : Result (Unit {0}) LogRefusal) → IsRunning old faults end shut → (shut ≡ false → Appends old new end member bytes result) → (result ≡ Err log.Shut) ↔ (shut ≡ true) → (result ≡ Err log.DiskFault → Rose faults faults') → (shut ≡ true → new ≡ old) → Running (end_behind end (length bytes) result) (shut_behind shut result)
  behind true (Ok done) was appends shuts rose same = absurd (let e = shuts.1 refl in cc)
  behind true (Err log.Shut) was appends shuts rose same = stands was (same refl)
  behind true (Err log.Full) was appends shuts rose same = absurd (let e = shuts.1 refl in cc)
  behind true (Err log.OutOfMemory) was appends shuts rose same = absurd (let e = shuts.1 refl in cc)
  behind true (Err log.DiskFault) was appends shuts rose same = absurd (let e = shuts.1 refl in cc)
  behind false (Ok done) was appends shuts rose same = goes (Ok done) (λ is. cc) (appends refl)
  behind false (Err log.Shut) was appends shuts rose same = absurd (let e = shuts.0 refl in cc)
  behind false (Err log.Full) was appends shuts rose same = goes (Err log.Full) (λ is. cc) (appends refl)
  behind false (Err log.OutOfMemory) was appends shuts rose same = goes (Err log.OutOfMemory) (λ is. cc) (appends refl)
  behind false (Err log.DiskFault) was appends shuts rose same = stops (rose refl) (appends refl)

pub running-on : (old new : Option History) (faults faults' end end' member : ℕ) (bytes : List ℕ) (shut shut' : Bool) (result : Result (Unit {0}) LogRefusal) → IsRunning old faults end shut → (shut ≡ false → Appends old new end member bytes result) → (result ≡ Err log.Shut) ↔ (shut ≡ true) → AppendCause faults faults' result
    → (shut ≡ true → new ≡ old) → end' ≡ end_behind end (length bytes) result → shut' ≡ shut_behind shut result → IsRunning new faults' end' shut'
running-on old new faults faults' end end' member bytes shut shut' result was appends shuts cause same there is =
    subst (λ (e : ℕ). IsRunning new faults' e shut') (sym there)
    (subst (IsRunning new faults' (end_behind end (length bytes) result)) (sym is) (behind old new faults faults' end member bytes cause.later shut result was appends shuts cause.fault same))

-- ---- the lists

abbrev ListsBehind : Option Journals → Option Journals → ℕ → List ℕ → Result (Unit {0}) LogRefusal → Type 0
ListsBehind old new member bytes (Ok done) = AddsRecord old new member bytes
ListsBehind old new member bytes (Err refusal) = KeepsJournals old new

answered : (old new : Option Journals) (member : ℕ) (bytes : List ℕ) (result : Result (Unit {0}) LogRefusal) → ListsBehind old new member bytes result → Appended old new member bytes (run_answer result)
answered old new member bytes (Ok done) lists = lists
answered old new member bytes (Err log.Shut) lists = lists
answered old new member bytes (Err log.Full) lists = lists
answered old new member bytes (Err log.OutOfMemory) lists = lists
answered old new member bytes (Err log.DiskFault) lists = inr lists

module _ (old new : Option History) (end end' member : ℕ) (bytes : List ℕ) (members members' : ℕ) (as-many : members' ≡ members) where
  lists-behind : (shut : Bool) (result : Result (Unit {0}) LogRefusal) → (shut ≡ false → Appends old new end member bytes result) → (result ≡ Err log.Shut) ↔ (shut ≡ true) → (shut ≡ true → new ≡ old) → end' ≡ end_behind end (length bytes) result → ListsBehind (told_lists old end members) (told_lists new end' members') member bytes result
  lists-behind true (Ok done) appends shuts same there = absurd (let e = shuts.1 refl in cc)
  lists-behind false (Ok done) appends shuts same there = adds old new end end' member bytes members members' (appends refl) there as-many
  lists-behind true (Err refusal) appends shuts same there = kept-as-was old new end end' members members' (same refl) there as-many
  lists-behind false (Err refusal) appends shuts same there = keeps old new end end' member bytes members members' refusal (appends refl) there as-many

pub lists-on : (old new : Option History) (end end' member : ℕ) (bytes : List ℕ) (members members' : ℕ) (shut : Bool) (result : Result (Unit {0}) LogRefusal) → (shut ≡ false → Appends old new end member bytes result) → (result ≡ Err log.Shut) ↔ (shut ≡ true) → (shut ≡ true → new ≡ old) → end' ≡ end_behind end (length bytes) result → members' ≡ members
    → Appended (told_lists old end members) (told_lists new end' members') member bytes (run_answer result)
lists-on old new end end' member bytes members members' shut result appends shuts same there as-many =
    answered (told_lists old end members) (told_lists new end' members') member bytes result (lists-behind old new end end' member bytes members members' as-many shut result appends shuts same there)

-- ---- the records, in order

answered-on : (records : List Record) (r : Record) (result : Result (Unit {0}) LogRefusal) → records_behind records r result ≡ records_on records r (run_answer result)
answered-on records r (Ok done) = refl
answered-on records r (Err log.Shut) = refl
answered-on records r (Err log.Full) = refl
answered-on records r (Err log.OutOfMemory) = refl
answered-on records r (Err log.DiskFault) = refl

shut-exactly : (old new : Option History) (end end' : ℕ) (r : Record) (e : LogRefusal) → new ≡ old → end' ≡ end → AddsExactly old new end end' r (run_answer (Err e))
shut-exactly None new end end' r e same there = same
shut-exactly (Some h) new end end' r e same there = (h, same, ap (λ (k : ℕ). records_to h.now.reads k) there ∙ answered-on (records_to h.now.reads end) r (Err e))

open-exactly : (old new : Option History) (end end' member : ℕ) (bytes : List ℕ) (result : Result (Unit {0}) LogRefusal) → Appends old new end member bytes result → end' ≡ end_behind end (length bytes) result → AddsExactly old new end end' (record { member = member; bytes = bytes }) (run_answer result)
open-exactly None new end end' member bytes result none there = none
open-exactly (Some h) new end end' member bytes result (n, is, a) there =
    (n, is, ap (λ (k : ℕ). records_to n.now.reads k) there ∙ a.records ∙ answered-on (records_to h.now.reads end) (record { member = member; bytes = bytes }) result)

pub exactly-on : (old new : Option History) (end end' member : ℕ) (bytes : List ℕ) (shut : Bool) (result : Result (Unit {0}) LogRefusal) → (shut ≡ false → Appends old new end member bytes result) → (result ≡ Err log.Shut) ↔ (shut ≡ true) → (shut ≡ true → new ≡ old) → end' ≡ end_behind end (length bytes) result
    → AddsExactly old new end end' (record { member = member; bytes = bytes }) (run_answer result)
exactly-on old new end end' member bytes true (Ok done) appends shuts same there = absurd (let e = shuts.1 refl in cc)
exactly-on old new end end' member bytes true (Err refusal) appends shuts same there = shut-exactly old new end end' (record { member = member; bytes = bytes }) refusal (same refl) there
exactly-on old new end end' member bytes false result appends shuts same there = open-exactly old new end end' member bytes result (appends refl) there

pub counts-many : (counts : List ℕ) (member : ℕ) (result : Result (Unit {0}) LogRefusal) (counts' : List ℕ) → counts' ≡ counts_behind counts member result → length counts' ≡ length counts
counts-many counts member (Ok done) counts' is = ap length is ∙ length-set counts member (get_or counts member 0 + 1)
counts-many counts member (Err refusal) counts' is = ap length is

-- ---- the disk after a run

pub held_lists : (told : Option History) (faults end members : ℕ) (shut : Bool) → IsRunning told faults end shut → IfTold told (λ h. AreSeen (moments h)) → HoldsLists members faults told (told_lists told end members)
held_lists None faults end members shut running seen = refl
held_lists (Some h) faults end members shut running seen =
    (records_to h.now.reads end, refl, record { reads = running.left h.now.reads (now-seen h seen); crash = running.left })

pub held_exactly : (told : Option History) (faults end : ℕ) (shut : Bool) → IsRunning told faults end shut → IfTold told (λ h. AreSeen (moments h)) → IfTold told (HoldsTo faults end)
held_exactly None faults end shut running seen = tt
held_exactly (Some h) faults end shut running seen = record { reads = running.left h.now.reads (now-seen h seen); crash = running.left }
