-- The lists of the log of a call: the acknowledged records, with the unfinished one.
use Rattle.std.proofs.Common.{◌≡◌, ◌⊎◌, ◌↔◌, inl, inr, ℕ, ◌+◌, ◌-◌, ◌==◌, ◌<◌, ◌≤◌, Bool, true, false, cond, List, [], ◌∷◌, ◌++◌, length, length-append, length-set, get_or, refl, sym, ◌∙◌, ap, subst, arith, Option, Some, None, Result, Ok, Err, IfOk}
use Rattle.std.proofs.lemmas.Bool.{eq-eqb, eqb-false, eqb-true}
use Rattle.std.proofs.lemmas.List.{get_or-append_right, get_or-set_other, get_or-set_same, get_or_append_left}
use Rattle.std.specs.Prelude.{is_some, slice_index}
use Rattle.outside.specs.Lists.{AddsRecord, Appended, HasMembers, IsCountOf, IsRecordAt, Journals, KeepsJournals, journal_of, with_record}
use Rattle.outside.specs.declared.faults.OutFault.TheVariants as fault
use Rattle.outside.specs.declared.faults.OutFault.{OutFault}
use Rattle.protocol_spec.specs.Chain.Words.{IsFront}
use Rattle.disk_log.specs.declared.refusals.LogRefusal.{LogRefusal}
use Rattle.disk_log.specs.declared.refusals.LogRefusal.TheVariants as log
use Rattle.disk_log.specs.Disk.{History}
use Rattle.disk_log.specs.Keeping.{Appends, counts_behind, end_behind, told_lists}
use Rattle.disk_log.specs.Records.{journals_of, records_to}
use Rattle.disk_log.specs.Running.{run_answer}
use Rattle.disk_log.proofs.Listing.{length-journals}
use Rattle.disk_log.proofs.Reading.{keeps}
use Rattle.disk_log.proofs.Running.{counts-many, lists-on}
use Rattle.run_law.proofs.SceneRecords.{front-set}
use Rattle.committee_core.specs.Calling.{HasGrown, IsNextOf, call_count, call_lists, unfinished_behind}
use Rattle.committee_core.specs.declared.call_log.Unfinished.{Unfinished}

-- ---- one record more

pub front-more : (lists : Journals) (m : ℕ) (bytes : List ℕ) (k : ℕ) → IsFront (journal_of lists k) (journal_of (with_record lists m bytes) k)
front-more lists m bytes k = front-set lists m (journal_of lists m ++ bytes ∷ []) (bytes ∷ [], refl) k

pub one-longer : (lists : Journals) (m : ℕ) (bytes : List ℕ) → m < length lists → length (journal_of (with_record lists m bytes) m) ≡ length (journal_of lists m) + 1
one-longer lists m bytes lt = ap length (get_or-set_same lists m (journal_of lists m ++ bytes ∷ []) [] lt) ∙ length-append (journal_of lists m) (bytes ∷ [])

longer : (lists : Journals) (m : ℕ) (bytes : List ℕ) (k : ℕ) → length (journal_of lists k) ≤ length (journal_of (with_record lists m bytes) k)
longer lists m bytes k =
    let front = front-more lists m bytes k in
    let size : length (journal_of (with_record lists m bytes) k) ≡ length (journal_of lists k) + length front.0 = ap length front.1 ∙ length-append (journal_of lists k) front.0 in
    omega (arith, size)

-- ---- lists that grow

pub grown-same : (lists : Option Journals) → HasGrown lists lists
grown-same None = refl
grown-same (Some lists) = λ m. omega arith

grown-untold : (first : Option Journals) → HasGrown first None
grown-untold None = refl
grown-untold (Some lists) = tt

grown-more : (first : Option Journals) (lists : Journals) (new : Option Journals) (m : ℕ) (bytes : List ℕ) → (new ≡ Some lists) ⊎ (new ≡ Some (with_record lists m bytes)) → HasGrown first (Some lists) → HasGrown first new
grown-more None lists new m bytes is was = absurd (cc)
grown-more (Some first) lists new m bytes (inl same) was = subst (HasGrown (Some first)) (sym same) was
grown-more (Some first) lists new m bytes (inr more) was =
    subst (HasGrown (Some first)) (sym more) (λ k. let a = was k in let b = longer lists m bytes k in omega (arith, a, b))

either : (lists : Journals) (new : Option Journals) (m : ℕ) (bytes : List ℕ) (result : Result (Unit {0}) OutFault) → Appended (Some lists) new m bytes result → (new ≡ Some lists) ⊎ (new ≡ Some (with_record lists m bytes))
either lists new m bytes (Ok done) adds = inr adds
either lists new m bytes (Err fault.Failed) (inl adds) = inr adds
either lists new m bytes (Err fault.Failed) (inr same) = inl same
either lists new m bytes (Err fault.OutOfMemory) same = inl same

untold-on : (new : Option History) (end m : ℕ) (bytes : List ℕ) (shut : Bool) (result : Result (Unit {0}) LogRefusal) → (shut ≡ false → Appends None new end m bytes result) → (shut ≡ true → new ≡ None) → new ≡ None
untold-on new end m bytes true result appends same = same refl
untold-on new end m bytes false result appends same = appends refl

pub grown-on : (first : Option Journals) (old new : Option History) (end end' m : ℕ) (bytes : List ℕ) (width width' : ℕ) (shut : Bool) (result : Result (Unit {0}) LogRefusal) → (shut ≡ false → Appends old new end m bytes result) → (result ≡ Err log.Shut) ↔ (shut ≡ true) → (shut ≡ true → new ≡ old)
    → end' ≡ end_behind end (length bytes) result → width' ≡ width → HasGrown first (told_lists old end width) → HasGrown first (told_lists new end' width')
grown-on first None new end end' m bytes width width' shut result appends shuts same there as-many was =
    subst (λ (t : Option History). HasGrown first (told_lists t end' width')) (sym (untold-on new end m bytes shut result appends same)) (grown-untold first)
grown-on first (Some h) new end end' m bytes width width' shut result appends shuts same there as-many was =
    grown-more first (journals_of width (records_to h.now.reads end)) (told_lists new end' width') m bytes
    (either (journals_of width (records_to h.now.reads end)) (told_lists new end' width') m bytes (run_answer result) (lists-on (Some h) new end end' m bytes width width' shut result appends shuts same there as-many))
    was

-- ---- appending

adds-called : (old new : Option Journals) (m : ℕ) (bytes : List ℕ) → AddsRecord old new m bytes → AddsRecord (call_lists old None) (call_lists new None) m bytes
adds-called None new m bytes adds = tt
adds-called (Some lists) new m bytes adds = ap (λ (t : Option Journals). call_lists t None) adds

pub call_keeps : (old new : Option Journals) (u : Option Unfinished) → KeepsJournals old new → KeepsJournals (call_lists old u) (call_lists new u)
call_keeps None new u keep = tt
call_keeps (Some lists) new u keep = ap (λ (t : Option Journals). call_lists t u) keep

-- the record that was being appended is the last of its list
torn-called : (old new : Option Journals) (begun : Unfinished) → KeepsJournals old new → AddsRecord (call_lists old None) (call_lists new (Some begun)) begun.member begun.bytes
torn-called None new begun keep = tt
torn-called (Some lists) new begun keep = ap (λ (t : Option Journals). call_lists t (Some begun)) keep

module _ (old new : Option History) (end end' : ℕ) (begun : Unfinished) (width width' : ℕ) (as-many : width' ≡ width) where
  abbrev Were : Option Journals
  Were = told_lists old end width

  abbrev Are : Option Journals
  Are = told_lists new end' width'

  abbrev Broke : Result (Unit {0}) LogRefusal
  Broke = Err log.DiskFault

  torn : (shut : Bool) → (shut ≡ false → Appends old new end begun.member begun.bytes Broke) → (Broke ≡ Err log.Shut) ↔ (shut ≡ true) → end' ≡ end → KeepsJournals Were Are
  torn true appends shuts there = absurd (let e = shuts.1 refl in cc)
  torn false appends shuts there = keeps old new end end' begun.member begun.bytes width width' log.DiskFault (appends refl) there as-many

  pub call_lists_on : (shut : Bool) (result : Result (Unit {0}) LogRefusal) → (shut ≡ false → Appends old new end begun.member begun.bytes result) → (result ≡ Err log.Shut) ↔ (shut ≡ true) → (shut ≡ true → new ≡ old) → end' ≡ end_behind end (length begun.bytes) result
      → Appended (call_lists Were None) (call_lists Are (unfinished_behind begun result)) begun.member begun.bytes (run_answer result)
  call_lists_on shut (Ok done) appends shuts same there = adds-called Were Are begun.member begun.bytes (lists-on old new end end' begun.member begun.bytes width width' shut (Ok done) appends shuts same there as-many)
  call_lists_on shut (Err log.Shut) appends shuts same there = call_keeps Were Are None (lists-on old new end end' begun.member begun.bytes width width' shut (Err log.Shut) appends shuts same there as-many)
  call_lists_on shut (Err log.Full) appends shuts same there = call_keeps Were Are None (lists-on old new end end' begun.member begun.bytes width width' shut (Err log.Full) appends shuts same there as-many)
  call_lists_on shut (Err log.OutOfMemory) appends shuts same there = call_keeps Were Are None (lists-on old new end end' begun.member begun.bytes width width' shut (Err log.OutOfMemory) appends shuts same there as-many)
  call_lists_on shut (Err log.DiskFault) appends shuts same there = inl (torn-called Were Are begun (torn shut appends shuts there))

-- an append to a log that has no unfinished record
module _ (old new : Option History) (end end' : ℕ) (counts counts' : List ℕ) (member kept : ℕ) (bytes : List ℕ) (shut : Bool) (result : Result (Unit {0}) LogRefusal) where
  abbrev now-begun : Unfinished
  now-begun = record { member = member; count = kept + 1; bytes = bytes }

  pub appended_lists : (u u' : Option Unfinished) (begun : Unfinished) (there : Bool) (answer : Result (Unit {0}) OutFault) → begun ≡ now-begun → there ≡ is_some u → there ≡ false → u' ≡ unfinished_behind begun result → answer ≡ run_answer result
      → (shut ≡ false → Appends old new end member bytes result) → (result ≡ Err log.Shut) ↔ (shut ≡ true) → (shut ≡ true → new ≡ old) → end' ≡ end_behind end (length bytes) result → counts' ≡ counts_behind counts member result
      → Appended (call_lists (told_lists old end (length counts)) u) (call_lists (told_lists new end' (length counts')) u') member bytes answer
  appended_lists None u' begun there answer is none isnt left passed appends shuts stays gate many =
      subst (λ (u : Option Unfinished). Appended (call_lists (told_lists old end (length counts)) None) (call_lists (told_lists new end' (length counts')) u) member bytes answer) (sym (left ∙ ap (λ (b : Unfinished). unfinished_behind b result) is))
      (subst (λ (a : Result (Unit {0}) OutFault). Appended (call_lists (told_lists old end (length counts)) None) (call_lists (told_lists new end' (length counts')) (unfinished_behind now-begun result)) member bytes a) (sym passed)
      (call_lists_on old new end end' now-begun (length counts) (length counts') (counts-many counts member result counts' many) shut result appends shuts stays gate))
  appended_lists (Some u) u' begun there answer is none isnt left passed appends shuts stays gate many = absurd (let e : true ≡ false = sym none ∙ isnt in cc)

-- ---- as many as there are

pub call_members : (told : Option Journals) (u : Option Unfinished) (n : ℕ) → HasMembers told n → HasMembers (call_lists told u) n
call_members None u n many = tt
call_members (Some lists) None n many = many
call_members (Some lists) (Some u) n many = length-set lists u.member (journal_of lists u.member ++ u.bytes ∷ []) ∙ many

module _ (told : Option History) (end : ℕ) (counts : List ℕ) (m kept : ℕ) (same : kept ≡ slice_index counts m) where
  by-one : (h : History) (u : Unfinished) → IsNextOf counts (Some u) → u.member ≡ m → IsCountOf (told_lists (Some h) end (length counts)) m kept → u.count ≡ length (journal_of (with_record (journals_of (length counts) (records_to h.now.reads end)) u.member u.bytes) m)
  by-one h u next it many =
      let lists : Journals = journals_of (length counts) (records_to h.now.reads end) in
      let lt : u.member < length lists = subst (λ (n : ℕ). u.member < n) (sym (length-journals (length counts) (records_to h.now.reads end))) next.0 in
      next.1 ∙ ap (λ (i : ℕ). slice_index counts i + 1) it ∙ ap (λ (n : ℕ). n + 1) (sym same ∙ many) ∙ ap (λ (i : ℕ). length (journal_of lists i) + 1) (sym it) ∙ sym (one-longer lists u.member u.bytes lt)
      ∙ ap (λ (i : ℕ). length (journal_of (with_record lists u.member u.bytes) i)) it

  other-one : (h : History) (u : Unfinished) → (m ≡ u.member → ⊥) → IsCountOf (told_lists (Some h) end (length counts)) m kept → kept ≡ length (journal_of (with_record (journals_of (length counts) (records_to h.now.reads end)) u.member u.bytes) m)
  other-one h u other many =
      let lists : Journals = journals_of (length counts) (records_to h.now.reads end) in
      many ∙ ap length (sym (get_or-set_other lists u.member m (journal_of lists u.member ++ u.bytes ∷ []) [] other))

  pub call_counts : (u : Option Unfinished) → IsNextOf counts u → IsCountOf (told_lists told end (length counts)) m kept → IsCountOf (call_lists (told_lists told end (length counts)) u) m (call_count u m kept)
  call_counts u next many = at told u next many
    where
      at : (t : Option History) (u : Option Unfinished) → IsNextOf counts u → IsCountOf (told_lists t end (length counts)) m kept → IsCountOf (call_lists (told_lists t end (length counts)) u) m (call_count u m kept)
      at None u next many = tt
      at (Some h) None next many = many
      at (Some h) (Some u) next many = go (u.member == m) refl
        where
          go : (b : Bool) → (u.member == m) ≡ b → cond (u.member == m) u.count kept ≡ length (journal_of (with_record (journals_of (length counts) (records_to h.now.reads end)) u.member u.bytes) m)
          go true is = ap (λ (b : Bool). cond b u.count kept) is ∙ by-one h u next (eqb-true u.member m is) many
          go false is = ap (λ (b : Bool). cond b u.count kept) is ∙ other-one h u (λ e. eqb-false u.member m is (sym e)) many

-- ---- what is read

-- a record before the unfinished one
pub read_before : (told : Option Journals) (u : Option Unfinished) (m kept place : ℕ) (bytes : List ℕ) → IsCountOf told m kept → place < kept → IsRecordAt told m place bytes → IsRecordAt (call_lists told u) m place bytes
read_before None u m kept place bytes many lt at = tt
read_before (Some lists) None m kept place bytes many lt at = at
read_before (Some lists) (Some u) m kept place bytes many lt at =
    let front = front-more lists u.member u.bytes m in
    let inside : place < length (journal_of lists m) = subst (λ (n : ℕ). place < n) many lt in
    at ∙ sym (get_or_append_left (journal_of lists m) front.0 [] place inside) ∙ ap (λ (l : List (List ℕ)). get_or l place []) (sym front.1)

pub read_before_if : {E : Type 0} (told : Option Journals) (u : Option Unfinished) (m kept place : ℕ) (result : Result (List ℕ) E) → IsCountOf told m kept → place < kept → IfOk result (IsRecordAt told m place) → IfOk result (IsRecordAt (call_lists told u) m place)
read_before_if told u m kept place (Ok bytes) many lt at = read_before told u m kept place bytes many lt at
read_before_if told u m kept place (Err e) many lt at = tt

-- only the unfinished record stands after those
whose : (u : Unfinished) (m kept place : ℕ) → (place < kept → ⊥) → place < call_count (Some u) m kept → u.member ≡ m
whose u m kept place past lt = go (u.member == m) refl
  where
    go : (b : Bool) → (u.member == m) ≡ b → u.member ≡ m
    go true is = eqb-true u.member m is
    go false is = absurd (past (subst (λ (n : ℕ). place < n) (ap (λ (b : Bool). cond b u.count kept) is) lt))

below : (u : Unfinished) (m kept place : ℕ) → u.member ≡ m → place < call_count (Some u) m kept → place < u.count
below u m kept place it lt = subst (λ (n : ℕ). place < n) (ap (λ (b : Bool). cond b u.count kept) (eq-eqb u.member m it)) lt

pub read_unfinished : (told : Option History) (end : ℕ) (counts : List ℕ) (u : Unfinished) (m kept place : ℕ) → kept ≡ slice_index counts m → IsNextOf counts (Some u) → IsCountOf (told_lists told end (length counts)) m kept → (place < kept → ⊥) → place < call_count (Some u) m kept
    → IsRecordAt (call_lists (told_lists told end (length counts)) (Some u)) m place u.bytes
read_unfinished None end counts u m kept place same next many past lt = tt
read_unfinished (Some h) end counts u m kept place same next many past lt =
    let lists : Journals = journals_of (length counts) (records_to h.now.reads end) in
    let it : u.member ≡ m = whose u m kept place past lt in
    let low : u.member < length lists = subst (λ (n : ℕ). u.member < n) (sym (length-journals (length counts) (records_to h.now.reads end))) next.0 in
    let count : u.count ≡ kept + 1 = next.1 ∙ ap (λ (i : ℕ). slice_index counts i + 1) it ∙ ap (λ (n : ℕ). n + 1) (sym same) in
    let long : length (journal_of lists u.member) ≡ place = ap (λ (i : ℕ). length (journal_of lists i)) it ∙ sym many ∙ (let b = below u m kept place it lt in omega (arith, b, count, past)) in
    sym (ap (λ (l : List (List ℕ)). get_or l place []) (ap (λ (i : ℕ). journal_of (with_record lists u.member u.bytes) i) (sym it) ∙ get_or-set_same lists u.member (journal_of lists u.member ++ u.bytes ∷ []) [] low)
    ∙ get_or-append_right (journal_of lists u.member) (u.bytes ∷ []) place place [] long (omega arith)
    ∙ ap (λ (i : ℕ). get_or (u.bytes ∷ []) i []) (let none : place - place ≡ 0 = omega arith in none))

pub read_as : (told : Option History) (end : ℕ) (counts : List ℕ) (u : Option Unfinished) (last : Unfinished) (bytes : List ℕ) (m kept place : ℕ) → u ≡ Some last → bytes ≡ last.bytes → kept ≡ slice_index counts m → IsNextOf counts u → IsCountOf (told_lists told end (length counts)) m kept
    → (place < kept → ⊥) → place < call_count u m kept → IsRecordAt (call_lists (told_lists told end (length counts)) u) m place bytes
read_as told end counts None last bytes m kept place is are same next many past lt = absurd (cc)
read_as told end counts (Some u) last bytes m kept place is are same next many past lt =
    let it : u ≡ last = cc in
    subst (IsRecordAt (call_lists (told_lists told end (length counts)) (Some u)) m place) (sym (are ∙ ap (λ (x : Unfinished). x.bytes) (sym it))) (read_unfinished told end counts u m kept place same next many past lt)
