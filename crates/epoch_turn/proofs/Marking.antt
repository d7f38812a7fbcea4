-- One cut after the other.
use Rattle.std.proofs.Common.{◌≡◌, ◌∙◌, refl, sym, ap, arith, ℕ, suc, ◌+◌, ◌-◌, ◌<◌, ◌≤◌, Bool, true, false, cond, List, [], ◌∷◌, length, take, drop, length-drop}
use Rattle.std.specs.Prelude.{slice_index_or}
use Rattle.std.specs.List.{list_all}
use Rattle.std.proofs.Math.Seq.{take-length}
use Rattle.std.proofs.lemmas.Bool.{cond-true}
use Rattle.protocol_spec.specs.Member.Versions.{Execution}
use Rattle.epoch_turn.specs.declared.due.Due.{Due}
use Rattle.epoch_turn.specs.declared.due.CutMark.{CutMark}
use Rattle.epoch_turn.specs.declared.growth.Growth.{Growth}
use Rattle.epoch_turn.specs.Dues.{front_length, is_due_done, size_of}
use Rattle.epoch_turn.specs.Kept.{grown, grown_all}
use Rattle.epoch_turn.proofs.Fronts.{front_behind, front_passes, front_reaches}

abbrev pub first_of_marks : List CutMark → CutMark
first_of_marks marks = slice_index_or marks 0 (record { size = 0; last = false })

abbrev pub after_first : List CutMark → List CutMark
after_first marks = take (length marks - 1) (drop 1 marks)

others : (m : CutMark) (ms : List CutMark) → after_first (m ∷ ms) ≡ ms
others m ms = ap (λ n. take n ms) (less (length ms)) ∙ take-length ms
  where
    less : (n : ℕ) → suc n - 1 ≡ n
    less n = omega arith

pub size_cons : (m : CutMark) (ms : List CutMark) → size_of (m ∷ ms) ≡ m.size + size_of ms
size_cons m ms = refl

module _ (epoch : ℕ) (executed : List Execution) where
  -- if the first cut is not done, nothing is added
  pub stops : (g : Growth) (ready : ℕ) (left : List Due) (rest : List CutMark) → 1 ≤ length rest → ready ≡ front_length (is_due_done executed) left → size_of rest ≤ length left
      → ready < (first_of_marks rest).size → grown_all epoch executed g left rest ≡ g
  stops g ready left [] some is sizes less = absurd (omega (arith, some))
  stops g ready left (m ∷ ms) some is sizes less = by (list_all (is_due_done executed) (take m.size left)) refl
    where
      by : (b : Bool) → list_all (is_due_done executed) (take m.size left) ≡ b → grown_all epoch executed g left (m ∷ ms) ≡ g
      by false e = ap (λ b. cond b (grown_all epoch executed (grown epoch executed g (take m.size left) m.last) (drop m.size left) ms) g) e
      by true e = let reaches = front_reaches (is_due_done executed) m.size left (let size = size_cons m ms in omega (arith, sizes, size)) e in absurd (omega (arith, reaches, is, less))

  -- if the first cut is done, its checkpoint is added, and then what the other cuts add
  pub goes_on : (g new : Growth) (ready : ℕ) (left txs back : List Due) (rest : List CutMark) (whole : Growth) → 1 ≤ length rest → ready ≡ front_length (is_due_done executed) left
      → (first_of_marks rest).size ≤ ready → txs ≡ take (first_of_marks rest).size left → back ≡ drop (first_of_marks rest).size left
      → new ≡ grown epoch executed g txs (first_of_marks rest).last → grown_all epoch executed g left rest ≡ whole → grown_all epoch executed new back (after_first rest) ≡ whole
  goes_on g new ready left txs back [] whole some is less t b n w = absurd (omega (arith, some))
  goes_on g new ready left txs back (m ∷ ms) whole some is less t b n w =
      ap (grown_all epoch executed new back) (others m ms)
      ∙ ap (λ ds. grown_all epoch executed new ds ms) b
      ∙ ap (λ x. grown_all epoch executed x (drop m.size left) ms) n
      ∙ ap (λ ds. grown_all epoch executed (grown epoch executed g ds m.last) (drop m.size left) ms) t
      ∙ sym (cond-true (list_all (is_due_done executed) (take m.size left)) (grown_all epoch executed (grown epoch executed g (take m.size left) m.last) (drop m.size left) ms) g
      (front_passes (is_due_done executed) m.size left (omega (arith, less, is))))
      ∙ w

  pub still_ready : (ready : ℕ) (left back : List Due) (rest : List CutMark) → ready ≡ front_length (is_due_done executed) left → (first_of_marks rest).size ≤ ready
      → back ≡ drop (first_of_marks rest).size left → ready - (first_of_marks rest).size ≡ front_length (is_due_done executed) back
  still_ready ready left back rest is less b =
      let behind = front_behind (is_due_done executed) (first_of_marks rest).size left (omega (arith, less, is)) in
      let same = ap (front_length (is_due_done executed)) b in
      omega (arith, behind, is, same)

pub still_sized : (left back : List Due) (rest : List CutMark) → 1 ≤ length rest → size_of rest ≤ length left → back ≡ drop (first_of_marks rest).size left → size_of (after_first rest) ≤ length back
still_sized left back [] some sizes b = absurd (omega (arith, some))
still_sized left back (m ∷ ms) some sizes b =
    let size = size_cons m ms in
    let same = ap size_of (others m ms) in
    let many = ap length b in
    let cut = length-drop m.size left in
    omega (arith, size, same, many, cut, sizes)
