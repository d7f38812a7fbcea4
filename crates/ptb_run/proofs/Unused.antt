-- A place of the list is unused if one of the rows still holds a value.
use Rattle.std.proofs.Common.{◌≡◌, ℕ, ◌+◌, Bool, ◌||◌, List, [], ◌∷◌, ◌++◌, Option, Some, None, refl, ap, sym, ◌∙◌}
use Rattle.std.specs.List.{list_any}
use Rattle.protocol_spec.specs.Block.Block as block
use Rattle.protocol_spec.specs.Block.Execution.{is_unused}
use Rattle.ptb_run.specs.declared.value.Value.{Value}
use Rattle.ptb_run.specs.declared.slots.Slots.{Slots}
use Rattle.ptb_run.specs.Slots.{input_row, is_row_left, result_row, result_rows, slots_of}

past_inputs : (n : ℕ) (vs : List (Option Value)) (rest : List block.Slot) → list_any is_unused (input_row n vs ++ rest) ≡ list_any is_unused rest
past_inputs n [] rest = refl
past_inputs n (v ∷ vs) rest = past_inputs (n + 1) vs rest

in_row : (c k : ℕ) (row : List (Option Value)) (rest : List block.Slot) → list_any is_unused (result_row c k row ++ rest) ≡ (is_row_left row || list_any is_unused rest)
in_row c k [] rest = refl
in_row c k (None ∷ row) rest = in_row c (k + 1) row rest
in_row c k (Some v ∷ row) rest = refl

in_rows : (c : ℕ) (rows : List (List (Option Value))) → list_any is_unused (result_rows c rows) ≡ list_any is_row_left rows
in_rows c [] = refl
in_rows c (row ∷ rows) = in_row c 0 row (result_rows (c + 1) rows) ∙ ap (λ (b : Bool). is_row_left row || b) (in_rows (c + 1) rows)

pub unused_is : (s : Slots) → list_any is_row_left s.results.items ≡ list_any is_unused (slots_of s)
unfolding slots_of
unused_is s = sym (past_inputs 0 s.inputs (result_rows 0 s.results.items) ∙ in_rows 0 s.results.items)
