-- The code keeps the gas coin, the inputs and the results apart; here they are the definition's one list of places.
use Rattle.std.specs.Prelude.{ℕ, Bool, is_some, ◌+◌, List, [], ◌∷◌, ◌++◌, slice_get, Option, Some, None}
use Rattle.std.specs.List.{list_any}
use Rattle.std.specs.Borrow.{Bor}
use Rattle.ptb_run.specs.declared.value.Value.{Value}
use Rattle.ptb_run.specs.declared.slots.Slots.{Slots}
use Rattle.protocol_spec.specs.Block.Block as block
use Rattle.ptb_run.specs.Values.{held, value_of}

abbrev pub input_row : ℕ → List (Option Value) → List block.Slot
input_row n [] = []
input_row n (v ∷ vs) = record { place = block.input n; value = held v } ∷ input_row (n + 1) vs

abbrev pub result_row : ℕ → ℕ → List (Option Value) → List block.Slot
result_row c k [] = []
result_row c k (v ∷ vs) = record { place = block.result c k; value = held v } ∷ result_row c (k + 1) vs

abbrev pub result_rows : ℕ → List (List (Option Value)) → List block.Slot
result_rows c [] = []
result_rows c (row ∷ rows) = result_row c 0 row ++ result_rows (c + 1) rows

abbrev pub all_slots : Option Value → List (Option Value) → List (List (Option Value)) → List block.Slot
all_slots gas inputs results = record { place = block.gas; value = held gas } ∷ (input_row 0 inputs ++ result_rows 0 results)

unfoldable pub slots_of : Slots → List block.Slot
slots_of s = all_slots s.gas s.inputs s.results.items

-- what a place of a row holds, none if it is spent or there is no such place
abbrev pub joined : Option (Option Value) → Option block.Value
joined None = None
joined (Some v) = held v

abbrev pub cell_of : List (Option Value) → ℕ → Option block.Value
cell_of row n = joined (slice_get row n)

-- a value that the code has lent, as the definition's
abbrev pub seen : Option (Bor Value) → Option block.Value
seen None = None
seen (Some v) = Some (value_of v.now)

-- a place of the row still holds a value
abbrev pub is_row_left : List (Option Value) → Bool
is_row_left row = list_any is_some row
