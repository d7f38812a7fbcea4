-- The log of a process: the records that it was opened with stay the first.
use Rattle.std.proofs.Common.{inl, inr, sym, subst, ap, ◌∙◌, refl}
use Rattle.std.specs.Prelude.{◌≡◌, ℕ, Bool, List, [], ◌∷◌, ◌++◌, length, Option, Some, None}
use Rattle.outside.specs.Lists.{Journals}
use Rattle.disk_log.specs.Disk.{History, IfTold}
use Rattle.disk_log.specs.Keeping.{Opened, told_lists}
use Rattle.disk_log.specs.Records.{Record, counted, records_to}
use Rattle.disk_log.specs.Running.{HasRecords, HoldsTo}
use Rattle.protocol_spec.proofs.ListLemmas.{front_then}
use Rattle.protocol_spec.specs.Chain.Words.{IsFront}
use Rattle.lives_law.specs.Files.{IsLeft}
use Rattle.validator_process.specs.Growing.{HasMore, IsWhole, LeavesFirst, StandsAs, counted_in, records_in}

pub records_opened : (old new : Option History) (end members : ℕ) → Opened old new end members → records_in new end ≡ counted_in old
records_opened None new end members none = ap (λ (t : Option History). records_in t end) none
records_opened (Some h) new end members (n, is, opened) = ap (λ (t : Option History). records_in t end) is ∙ opened.records

-- ---- more records

pub more_then : (first mid last : Option History) (end end' end'' faults faults' : ℕ) → HasMore first mid end end' faults → HasMore mid last end' end'' faults' → HasMore first last end end'' faults'
more_then first mid last end end' end'' faults faults' one other = record {
  first = front_then (records_in first end) (records_in mid end') (records_in last end'') one.first other.first;
  holds = other.holds;
}

has-first : (first records : List Record) (faults : ℕ) (file : List ℕ) → IsFront first records → HasRecords faults records file → IsFront first (counted file)
has-first first records faults file front (inl same) = subst (λ (l : List Record). IsFront first l) (sym same) front
has-first first records faults file front (inr (fault, r, more)) =
    subst (λ (l : List Record). IsFront first l) (sym more) (front_then first records (records ++ r ∷ []) front (r ∷ [], refl))

pub leaves_first : (first : List Record) (told : Option History) (faults end : ℕ) → IsFront first (records_in told end) → IfTold told (HoldsTo faults end) → IfTold told (LeavesFirst first)
leaves_first first None faults end front holds = tt
leaves_first first (Some h) faults end front holds = go
  where
    go : (file : List ℕ) → IsLeft h file → IsFront first (counted file)
    go file (inl same) = subst (λ (f : List ℕ). IsFront first (counted f)) (sym same) (has-first first (records_to h.now.reads end) faults h.now.reads front holds.reads)
    go file (inr image) = has-first first (records_to h.now.reads end) faults file front (holds.crash file image)

-- ---- a log that is only read

pub same_log : (told : Option History) (end : ℕ) (counts : List ℕ) (shut : Bool) → StandsAs told end counts shut told end counts shut
same_log told end counts shut = record { history = refl; gate = refl; sizes = refl; goes = refl }

pub stands_still : (told told' first : Option History) (end end' gate : ℕ) (counts counts' sizes : List ℕ) (shut shut' goes : Bool) → StandsAs told end counts shut first gate sizes goes → told' ≡ told → end' ≡ end → counts' ≡ counts → shut' ≡ shut
    → StandsAs told' end' counts' shut' first gate sizes goes
stands_still told told' first end end' gate counts counts' sizes shut shut' goes was history there many same = record {
  history = history ∙ was.history;
  gate = there ∙ was.gate;
  sizes = many ∙ was.sizes;
  goes = same ∙ was.goes;
}

module _ (told : Option History) (end : ℕ) (counts : List ℕ) (shut : Bool) (first : Option History) (gate : ℕ) (sizes : List ℕ) (goes : Bool) (stands : StandsAs told end counts shut first gate sizes goes) where
  pub lists_stand : told_lists told end (length counts) ≡ told_lists first gate (length sizes)
  lists_stand =
      ap (λ (t : Option History). told_lists t end (length counts)) stands.history
      ∙ ap (λ (e : ℕ). told_lists first e (length counts)) stands.gate
      ∙ ap (λ (cs : List ℕ). told_lists first gate (length cs)) stands.sizes

  pub records_stand : records_in told end ≡ records_in first gate
  records_stand = ap (λ (t : Option History). records_in t end) stands.history ∙ ap (λ (e : ℕ). records_in first e) stands.gate

  pub width_stands : length counts ≡ length sizes
  width_stands = ap (λ (cs : List ℕ). length cs) stands.sizes

  pub whole_stands : IsWhole first gate goes → IsWhole told end shut
  whole_stands whole =
      subst (λ (t : Option History). IsWhole t end shut) (sym stands.history)
      (subst (λ (e : ℕ). IsWhole first e shut) (sym stands.gate) (subst (λ (b : Bool). IsWhole first gate b) (sym stands.goes) whole))
