-- The state of a block between two commands. Source: Sui documentation (programmable transaction blocks).
use Rattle.std.specs.Prelude.{ℕ, Bool, true, false, ◌&&◌, ◌==◌, List, [], ◌∷◌, ◌++◌, map, count_by, find, Option, Some, option_and_then, if◌then◌else◌}
use Rattle.std.specs.List.{enumerate_from}
use Rattle.chain_types.specs.declared.objects.Kind.{Kind}
use Rattle.protocol_spec.specs.declared.pieces.Item.{Item}
use Rattle.protocol_spec.specs.declared.pieces.Placed.{Placed}

-- where a value lies: the gas coin, an input, or a result of a command
pub data Place : Type 0 where
  gas : Place
  input : ℕ → Place
  result : ℕ → ℕ → Place

-- pure bytes, an object, or a vector of objects of one kind
pub data Value : Type 0 where
  pure : List ℕ → Value
  object : Item → Value
  vector : Kind → List Item → Value

-- a place with its value, or spent
pub record Slot : Type 0 where
  pub place : Place
  pub value : Option Value

-- the places, the objects that left the block to an owner, and the number of the next creation. Which
-- objects were deleted needs no list: the place of one is spent, and it is not among those that left.
pub record Block : Type 0 where
  pub slots : List Slot
  pub placed : List Placed
  pub made : ℕ

abbrev pub place_eq : Place → Place → Bool
place_eq gas gas = true
place_eq (input a) (input b) = a == b
place_eq (result a i) (result b j) = (a == b) && (i == j)
place_eq gas (input b) = false
place_eq gas (result b j) = false
place_eq (input a) gas = false
place_eq (input a) (result b j) = false
place_eq (result a i) gas = false
place_eq (result a i) (input b) = false

abbrev pub slot_value : Slot → Option Value
slot_value s = s.value

-- the value that lies in a place, none if it is spent or not there
abbrev pub value_in : Place → List Slot → Option Value
value_in p slots = option_and_then slot_value (find (λ (s : Slot). place_eq s.place p) slots)

-- the places with another value in this one, or with this one spent
abbrev pub put_in : Place → Option Value → List Slot → List Slot
put_in p value [] = []
put_in p value (s ∷ slots) = if place_eq s.place p then record s { value = value } ∷ slots else s ∷ put_in p value slots

abbrev pub is_result_of : ℕ → Place → Bool
is_result_of c gas = false
is_result_of c (input n) = false
is_result_of c (result command k) = command == c

-- how many results a command gave
abbrev pub result_count : ℕ → List Slot → ℕ
result_count c slots = count_by (λ (s : Slot). is_result_of c s.place) slots

-- the places of a command's results
abbrev pub result_slots : ℕ → List Value → List Slot
result_slots c values = map (λ (v : ℕ × Value). record { place = result c v.0; value = Some v.1 }) (enumerate_from 0 values)

abbrev pub with_results : ℕ → List Value → Block → Block
with_results c values b = record b { slots = b.slots ++ result_slots c values }
