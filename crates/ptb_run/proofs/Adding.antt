-- One more row at the end.
use Rattle.std.proofs.Common.{◌≡◌, ℕ, ◌+◌, List, [], ◌∷◌, ◌++◌, length, Option, refl, sym, ap, ◌∙◌, append_assoc, arith}
use Rattle.ptb_run.specs.declared.value.Value.{Value}
use Rattle.ptb_run.specs.declared.slots.Slots.{Slots}
use Rattle.protocol_spec.specs.Block.Block as block
use Rattle.ptb_run.specs.Values.{held}
use Rattle.ptb_run.specs.Slots.{all_slots, input_row, result_row, result_rows, slots_of}

nothing_more : (xs : List block.Slot) → xs ++ [] ≡ xs
nothing_more [] = refl
nothing_more (x ∷ xs) = ap (λ (l : List block.Slot). x ∷ l) (nothing_more xs)

last_row : (d n : ℕ) (rows : List (List (Option Value))) (row : List (Option Value)) → n ≡ d + length rows
    → result_rows d (rows ++ row ∷ []) ≡ result_rows d rows ++ result_row n 0 row
last_row d n [] row e = let same : d ≡ n = omega arith in nothing_more (result_row d 0 row) ∙ ap (λ (m : ℕ). result_row m 0 row) same
last_row d n (first ∷ rows) row e =
    ap (λ (l : List block.Slot). result_row d 0 first ++ l) (last_row (d + 1) n rows row (omega arith))
    ∙ sym (append_assoc (result_row d 0 first) (result_rows (d + 1) rows) (result_row n 0 row))

pub row_added : (s t : Slots) (row : List (Option Value)) → t.gas ≡ s.gas → t.inputs ≡ s.inputs → t.results.items ≡ s.results.items ++ row ∷ []
    → slots_of t ≡ slots_of s ++ result_row (length s.results.items) 0 row
unfolding slots_of
row_added s t row same_gas same_inputs is =
    ap (λ (g : Option Value). all_slots g t.inputs t.results.items) same_gas
    ∙ ap (λ (i : List (Option Value)). all_slots s.gas i t.results.items) same_inputs
    ∙ ap (λ (r : List (List (Option Value))). all_slots s.gas s.inputs r) is
    ∙ ap (λ (l : List block.Slot). record { place = block.gas; value = held s.gas } ∷ (input_row 0 s.inputs ++ l)) (last_row 0 (length s.results.items) s.results.items row (omega arith))
    ∙ ap (λ (l : List block.Slot). record { place = block.gas; value = held s.gas } ∷ l) (sym (append_assoc (input_row 0 s.inputs) (result_rows 0 s.results.items) (result_row (length s.results.items) 0 row)))
