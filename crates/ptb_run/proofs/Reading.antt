-- What lies in a place of the list is what the code's rows hold.
use Rattle.std.proofs.Common.{◌≡◌, ℕ, zero, suc, ◌+◌, ◌<◌, ◌≤◌, true, false, List, [], ◌∷◌, ◌++◌, length, Option, Some, None, refl, sym, ap, ◌∙◌, arith}
use Rattle.std.specs.Prelude.{◌==◌, slice_get, slice_index_or}
use Rattle.std.proofs.lemmas.Option.{slice_get_past, slice_get_read}
use Rattle.ptb_run.specs.declared.value.Spot.{Spot}
use Rattle.ptb_run.specs.declared.value.Spot.TheVariants as spots
use Rattle.ptb_run.specs.declared.value.Value.{Value}
use Rattle.ptb_run.specs.declared.slots.Slots.{Slots}
use Rattle.protocol_spec.specs.Block.Block as block
use Rattle.ptb_run.specs.Values.{held, spot_of}
use Rattle.ptb_run.specs.Slots.{input_row, result_row, result_rows, slots_of, cell_of}
use Rattle.ptb_run.proofs.SameNumber.{same_number, other_number}

-- the first slot of a list, by the test of its place
first_here : (p : block.Place) (s : block.Slot) (rest : List block.Slot) → block.place_eq s.place p ≡ true → block.value_in p (s ∷ rest) ≡ s.value
first_here p s rest e = rw e

first_not : (p : block.Place) (s : block.Slot) (rest : List block.Slot) → block.place_eq s.place p ≡ false → block.value_in p (s ∷ rest) ≡ block.value_in p rest
first_not p s rest e = rw e

-- a row of another command has no such place
pub other_row : (c d k : ℕ) → (d == c) ≡ false → (j : ℕ) (row : List (Option Value)) (rest : List block.Slot)
    → block.value_in (block.result c k) (result_row d j row ++ rest) ≡ block.value_in (block.result c k) rest
other_row c d k e j [] rest = refl
other_row c d k e j (v ∷ row) rest = first_not (block.result c k) (record { place = block.result d j; value = held v }) (result_row d (j + 1) row ++ rest) (rw e) ∙ other_row c d k e (j + 1) row rest

own_row : (c k j i : ℕ) → k ≡ j + i → (row : List (Option Value)) (rest : List block.Slot) → block.value_in (block.result c k) rest ≡ None
    → block.value_in (block.result c k) (result_row c j row ++ rest) ≡ cell_of row i
own_row c k j i e [] rest none = none
own_row c k j zero e (v ∷ row) rest none =
    first_here (block.result c k) (record { place = block.result c j; value = held v }) (result_row c (j + 1) row ++ rest) (rw (same_number c c refl, same_number j k (omega arith)))
own_row c k j (suc i) e (v ∷ row) rest none =
    first_not (block.result c k) (record { place = block.result c j; value = held v }) (result_row c (j + 1) row ++ rest) (rw (same_number c c refl, other_number j k (omega arith)))
    ∙ own_row c k (j + 1) i (omega arith) row rest none

none_below : (c k d : ℕ) → c < d → (rows : List (List (Option Value))) → block.value_in (block.result c k) (result_rows d rows) ≡ None
none_below c k d low [] = refl
none_below c k d low (row ∷ rows) = other_row c d k (other_number d c (omega arith)) 0 row (result_rows (d + 1) rows) ∙ none_below c k (d + 1) (omega arith) rows

abbrev pub row_of : Option (List (Option Value)) → List (Option Value)
row_of None = []
row_of (Some row) = row

in_rows : (c k d i : ℕ) → c ≡ d + i → (rows : List (List (Option Value))) → block.value_in (block.result c k) (result_rows d rows) ≡ cell_of (row_of (slice_get rows i)) k
in_rows c k d i e [] = refl
in_rows c k d zero e (row ∷ rows) =
    let same : d ≡ c = omega arith in
    ap (λ (n : ℕ). block.value_in (block.result c k) (result_row n 0 row ++ result_rows (d + 1) rows)) same
    ∙ own_row c k 0 k (omega arith) row (result_rows (d + 1) rows) (none_below c k (d + 1) (omega arith) rows)
in_rows c k d (suc i) e (row ∷ rows) =
    other_row c d k (other_number d c (omega arith)) 0 row (result_rows (d + 1) rows) ∙ in_rows c k (d + 1) i (omega arith) rows

-- inputs are not results
past_inputs : (c k n : ℕ) (vs : List (Option Value)) (rest : List block.Slot) → block.value_in (block.result c k) (input_row n vs ++ rest) ≡ block.value_in (block.result c k) rest
past_inputs c k n [] rest = refl
past_inputs c k n (v ∷ vs) rest = past_inputs c k (n + 1) vs rest

past_row : (m d j : ℕ) (row : List (Option Value)) (rest : List block.Slot) → block.value_in (block.input m) (result_row d j row ++ rest) ≡ block.value_in (block.input m) rest
past_row m d j [] rest = refl
past_row m d j (v ∷ row) rest = past_row m d (j + 1) row rest

past_rows : (m d : ℕ) (rows : List (List (Option Value))) → block.value_in (block.input m) (result_rows d rows) ≡ None
past_rows m d [] = refl
past_rows m d (row ∷ rows) = past_row m d 0 row (result_rows (d + 1) rows) ∙ past_rows m (d + 1) rows

in_inputs : (m n i : ℕ) → m ≡ n + i → (vs : List (Option Value)) (rows : List (List (Option Value))) → block.value_in (block.input m) (input_row n vs ++ result_rows 0 rows) ≡ cell_of vs i
in_inputs m n i e [] rows = past_rows m 0 rows
in_inputs m n zero e (v ∷ vs) rows =
    first_here (block.input m) (record { place = block.input n; value = held v }) (input_row (n + 1) vs ++ result_rows 0 rows) (same_number n m (omega arith))
in_inputs m n (suc i) e (v ∷ vs) rows =
    first_not (block.input m) (record { place = block.input n; value = held v }) (input_row (n + 1) vs ++ result_rows 0 rows) (other_number n m (omega arith))
    ∙ in_inputs m (n + 1) i (omega arith) vs rows

pub gas_in : (s : Slots) → block.value_in block.gas (slots_of s) ≡ held s.gas
unfolding slots_of
gas_in s = refl

pub input_in : (s : Slots) (m : ℕ) → block.value_in (block.input m) (slots_of s) ≡ cell_of s.inputs m
unfolding slots_of
input_in s m = in_inputs m 0 m (omega arith) s.inputs s.results.items

result_at : (s : Slots) (c k : ℕ) → block.value_in (block.result c k) (slots_of s) ≡ cell_of (row_of (slice_get s.results.items c)) k
unfolding slots_of
result_at s c k = past_inputs c k 0 s.inputs (result_rows 0 s.results.items) ∙ in_rows c k 0 c (omega arith) s.results.items

pub result_in : (s : Slots) (p : Spot) (c k : ℕ) (xs : List (List (Option Value))) (row : List (Option Value)) → p ≡ spots.Result c k → xs ≡ s.results.items → c < length xs → row ≡ slice_index_or xs c row
    → cell_of row k ≡ block.value_in (spot_of p) (slots_of s)
result_in s p c k xs row at same low is =
    sym (ap (λ (q : Spot). block.value_in (spot_of q) (slots_of s)) at
    ∙ result_at s c k
    ∙ ap (λ (r : Option (List (Option Value))). cell_of (row_of r) k) (ap (λ (l : List (List (Option Value))). slice_get l c) (sym same) ∙ slice_get_read xs (length xs) c row refl low is))

pub no_result_in : (s : Slots) (p : Spot) (c k : ℕ) (xs : List (List (Option Value))) → p ≡ spots.Result c k → xs ≡ s.results.items → length xs ≤ c
    → None ≡ block.value_in (spot_of p) (slots_of s)
no_result_in s p c k xs at same past =
    sym (ap (λ (q : Spot). block.value_in (spot_of q) (slots_of s)) at
    ∙ result_at s c k
    ∙ ap (λ (r : Option (List (Option Value))). cell_of (row_of r) k) (ap (λ (l : List (List (Option Value))). slice_get l c) (sym same) ∙ slice_get_past xs c past))
