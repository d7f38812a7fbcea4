-- The number of results of a command is the length of its row.
use Rattle.std.proofs.Common.{◌≡◌, ℕ, zero, suc, ◌+◌, ◌<◌, ◌≤◌, Bool, true, false, List, [], ◌∷◌, ◌++◌, length, Option, Some, None, refl, sym, ap, ◌∙◌, cond, arith}
use Rattle.std.specs.Prelude.{◌==◌, slice_get, slice_index_or}
use Rattle.std.proofs.lemmas.List.Sums.{sum_by-cons}
use Rattle.std.proofs.lemmas.Option.{slice_get_read, slice_get_past}
use Rattle.ptb_run.specs.declared.value.Value.{Value}
use Rattle.ptb_run.specs.declared.slots.Slots.{Slots}
use Rattle.protocol_spec.specs.Block.Block as block
use Rattle.ptb_run.specs.Values.{held}
use Rattle.ptb_run.specs.Slots.{input_row, result_row, result_rows, slots_of}
use Rattle.ptb_run.proofs.SameNumber.{same_number, other_number}
use Rattle.ptb_run.proofs.Reading.{row_of}

count_here : (c : ℕ) (s : block.Slot) (rest : List block.Slot) (b : Bool) → block.is_result_of c s.place ≡ b → block.result_count c (s ∷ rest) ≡ cond b 1 0 + block.result_count c rest
count_here c s rest b e = sum_by-cons (λ (x : block.Slot). cond (block.is_result_of c x.place) 1 0) s rest ∙ ap (λ (t : Bool). cond t 1 0 + block.result_count c rest) e

counted : (c d : ℕ) (b : Bool) → (d == c) ≡ b → (j : ℕ) (row : List (Option Value)) (rest : List block.Slot)
    → block.result_count c (result_row d j row ++ rest) ≡ cond b (length row) 0 + block.result_count c rest
counted c d true e j [] rest = omega arith
counted c d false e j [] rest = omega arith
counted c d true e j (v ∷ row) rest =
    let here = count_here c (record { place = block.result d j; value = held v }) (result_row d (j + 1) row ++ rest) true e in
    let more = counted c d true e (j + 1) row rest in
    omega arith
counted c d false e j (v ∷ row) rest =
    let here = count_here c (record { place = block.result d j; value = held v }) (result_row d (j + 1) row ++ rest) false e in
    let more = counted c d false e (j + 1) row rest in
    omega arith

none_below : (c d : ℕ) → c < d → (rows : List (List (Option Value))) → block.result_count c (result_rows d rows) ≡ 0
none_below c d low [] = refl
none_below c d low (row ∷ rows) =
    let first = counted c d false (other_number d c (omega arith)) 0 row (result_rows (d + 1) rows) in
    let others = none_below c (d + 1) (omega arith) rows in
    omega arith

in_rows : (c d i : ℕ) → c ≡ d + i → (rows : List (List (Option Value))) → block.result_count c (result_rows d rows) ≡ length (row_of (slice_get rows i))
in_rows c d i e [] = refl
in_rows c d zero e (row ∷ rows) =
    let first = counted c d true (same_number d c (omega arith)) 0 row (result_rows (d + 1) rows) in
    let others = none_below c (d + 1) (omega arith) rows in
    omega arith
in_rows c d (suc i) e (row ∷ rows) =
    let first = counted c d false (other_number d c (omega arith)) 0 row (result_rows (d + 1) rows) in
    let others = in_rows c (d + 1) i (omega arith) rows in
    omega arith

past_inputs : (c n : ℕ) (vs : List (Option Value)) (rest : List block.Slot) → block.result_count c (input_row n vs ++ rest) ≡ block.result_count c rest
past_inputs c n [] rest = refl
past_inputs c n (v ∷ vs) rest =
    let here = count_here c (record { place = block.input n; value = held v }) (input_row (n + 1) vs ++ rest) false refl in
    let others = past_inputs c (n + 1) vs rest in
    omega arith

count_at : (s : Slots) (c : ℕ) → block.result_count c (slots_of s) ≡ length (row_of (slice_get s.results.items c))
unfolding slots_of
count_at s c =
    let inputs = past_inputs c 0 s.inputs (result_rows 0 s.results.items) in
    let rows = in_rows c 0 c (omega arith) s.results.items in
    omega arith

count_of : (s : Slots) (c : ℕ) (found : Option (List (Option Value))) → slice_get s.results.items c ≡ found → length (row_of found) ≡ block.result_count c (slots_of s)
count_of s c found e = sym (count_at s c ∙ ap (λ (r : Option (List (Option Value))). length (row_of r)) e)

pub count_there : (s : Slots) (c : ℕ) (xs : List (List (Option Value))) (row : List (Option Value)) → xs ≡ s.results.items → c < length xs → row ≡ slice_index_or xs c row
    → length row ≡ block.result_count c (slots_of s)
count_there s c xs row same low is =
    count_of s c (Some row) (ap (λ (l : List (List (Option Value))). slice_get l c) (sym same) ∙ slice_get_read xs (length xs) c row refl low is)

pub count_not_there : (s : Slots) (c : ℕ) (xs : List (List (Option Value))) → xs ≡ s.results.items → length xs ≤ c → 0 ≡ block.result_count c (slots_of s)
count_not_there s c xs same past = count_of s c None (ap (λ (l : List (List (Option Value))). slice_get l c) (sym same) ∙ slice_get_past xs c past)
