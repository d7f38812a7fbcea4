-- What each place of a block holds, against what it held first: an input keeps its id, the gas coin is a coin or has
-- left, and what may only be read stays as it was.
use Rattle.std.proofs.Common.{refl, ap, ◌∙◌}
use Rattle.std.specs.Prelude.{◌≡◌, ℕ, ◌+◌, Bool, true, false, not, cond, List, [], ◌∷◌, ◌++◌, map, slice_get, Option, Some, None}
use Rattle.std.specs.List.{enumerate_from}
use Rattle.chain_types.specs.declared.transactions.Command.{Command}
use Rattle.chain_types.specs.declared.transactions.Transaction.{Transaction}
use Rattle.protocol_spec.specs.declared.pieces.Item.{Item}
use Rattle.protocol_spec.specs.declared.pieces.Placed.{Placed}
use Rattle.protocol_spec.proofs.ListLemmas.{has_left}
use Rattle.protocol_spec.specs.Chain.Words.{Each, Has}
use Rattle.protocol_spec.specs.Block.Natives.{kind_of, with_amount, holding}
use Rattle.protocol_spec.specs.Chain.Tests.{kind_eq}
use Rattle.chain_types.specs.declared.objects.Kind.{Kind}
use Rattle.protocol_spec.specs.Block.Block.{Place, gas, input, result, Value, pure, object, vector, Slot, value_in, put_in, place_eq, result_slots}
use Rattle.protocol_spec.specs.Block.Commands.{is_transfer, is_common, is_read_only, stays_in_place, is_frozen_place}
use Rattle.block_law.proofs.Slots.{Every, every-append, values_weight, slots_weight}
use Rattle.block_law.proofs.Amounts.{amount-twice}
use native.Mathlib.Omega.{arith}

-- ---- one value

-- `now` is the object `before`, with another amount at most
abbrev pub Like : Item → Item → Type 0
Like before now = (now.id ≡ before.id) × ((n : ℕ) × (now.content ≡ with_amount n before.content))

pub like-holding : (before now : Item) (n : ℕ) → Like before now → Like before (holding n now)
like-holding before now n like = (like.0, (n, ap (with_amount n) like.1.1 ∙ amount-twice n like.1.0 before.content))

-- what first lay in a place, frozen or not, and what lies there now
abbrev pub Turned : Bool → Option Value → Value → Type 0
Turned true first (pure now) = first ≡ Some (pure now)
Turned true first (object now) = first ≡ Some (object now)
Turned true first (vector k now) = ⊥
Turned false None v = ⊥
Turned false (Some (pure bytes)) (pure now) = Unit {0}
Turned false (Some (pure bytes)) (object now) = ⊥
Turned false (Some (pure bytes)) (vector k now) = ⊥
Turned false (Some (object before)) (pure now) = ⊥
Turned false (Some (object before)) (object now) = Like before now
Turned false (Some (object before)) (vector k now) = ⊥
Turned false (Some (vector k before)) v = ⊥

turned-holding : (first : Option Value) (now : Item) (n : ℕ) → Turned false first (object now) → Turned false first (object (holding n now))
turned-holding None now n turned = turned
turned-holding (Some (pure bytes)) now n turned = turned
turned-holding (Some (object before)) now n turned = like-holding before now n turned
turned-holding (Some (vector k before)) now n turned = turned

-- an object that left its place is among those that left the block
abbrev pub Went : List Placed → Option Value → Type 0
Went placed None = ⊥
Went placed (Some (pure bytes)) = ⊥
Went placed (Some (object before)) = (p : Placed) × (Has placed p × Like before p.item)
Went placed (Some (vector k before)) = ⊥

-- a vector holds objects of its kind
abbrev pub IsSorted : Value → Type 0
IsSorted (pure bytes) = Unit {0}
IsSorted (object i) = Unit {0}
IsSorted (vector k is) = Each (λ (i : Item). kind_eq (kind_of i.content) k ≡ true) is

-- ---- a place

abbrev pub Good : Transaction → List Slot → List Placed → Place → Option Value → Type 0
Good t first placed gas (Some v) = Turned false (value_in gas first) v
Good t first placed gas None = Went placed (value_in gas first)
Good t first placed (input n) (Some v) = Turned (is_read_only (slice_get t.inputs n)) (value_in (input n) first) v
Good t first placed (input n) None = is_common (slice_get t.inputs n) ≡ false
Good t first placed (result c k) (Some v) = IsSorted v
Good t first placed (result c k) None = Unit {0}

pub good-holding : (t : Transaction) (first : List Slot) (placed : List Placed) (p : Place) (now : Item) (n : ℕ) → is_frozen_place t p ≡ false → Good t first placed p (Some (object now)) → Good t first placed p (Some (object (holding n now)))
good-holding t first placed gas now n thawed good = turned-holding (value_in gas first) now n good
good-holding t first placed (result c k) now n thawed good = tt
good-holding t first placed (input m) now n thawed good = go (is_read_only (slice_get t.inputs m)) thawed good
  where
    go : (b : Bool) → b ≡ false → Turned b (value_in (input m) first) (object now) → Turned b (value_in (input m) first) (object (holding n now))
    go true e good = absurd (cc)
    go false e good = turned-holding (value_in (input m) first) now n good

pub good-spent : (t : Transaction) (c : Command) (first : List Slot) (placed : List Placed) (p : Place) → is_transfer c ≡ false → stays_in_place t c p ≡ false → Good t first placed p None
good-spent t c first placed gas kept moves = go (is_transfer c) kept moves
  where
    go : (b : Bool) → b ≡ false → not b ≡ false → Went placed (value_in gas first)
    go true e f = absurd (cc)
    go false e f = absurd (cc)
good-spent t c first placed (input n) kept moves = moves
good-spent t c first placed (result d k) kept moves = tt

-- ---- more objects leave the block

went-grows : (placed more : List Placed) (first : Option Value) → Went placed first → Went (placed ++ more) first
went-grows placed more None went = went
went-grows placed more (Some (pure bytes)) went = went
went-grows placed more (Some (object before)) went = (went.0, (has_left placed more went.0 went.1.0, went.1.1))
went-grows placed more (Some (vector k before)) went = went

good-grows : (t : Transaction) (first : List Slot) (placed more : List Placed) (p : Place) (v : Option Value) → Good t first placed p v → Good t first (placed ++ more) p v
good-grows t first placed more gas (Some v) good = good
good-grows t first placed more gas None good = went-grows placed more (value_in gas first) good
good-grows t first placed more (input n) (Some v) good = good
good-grows t first placed more (input n) None good = good
good-grows t first placed more (result c k) (Some v) good = good
good-grows t first placed more (result c k) None good = tt

pub every-grows : (t : Transaction) (first : List Slot) (placed more : List Placed) (slots : List Slot) → Every (Good t first placed) slots → Every (Good t first (placed ++ more)) slots
every-grows t first placed more [] each = tt
every-grows t first placed more (s ∷ slots) each = (good-grows t first placed more s.place s.value each.0, every-grows t first placed more slots each.1)

-- ---- the places themselves

abbrev pub is_result : Place → Bool
is_result gas = false
is_result (input n) = false
is_result (result c k) = true

-- the first places are these, and those after them are results
abbrev pub Stands : List Place → List Slot → Type 0
Stands [] slots = Each (λ (s : Slot). is_result s.place ≡ true) slots
Stands (p ∷ places) [] = ⊥
Stands (p ∷ places) (s ∷ slots) = (s.place ≡ p) × Stands places slots

pub put-stands : (places : List Place) (p : Place) (u : Option Value) (slots : List Slot) → Stands places slots → Stands places (put_in p u slots)
put-stands [] p u [] stands = tt
put-stands [] p u (s ∷ slots) stands = go (place_eq s.place p) (put-stands [] p u slots stands.1)
  where
    go : (b : Bool) → Stands [] (put_in p u slots) → Stands [] (cond b (record s { value = u } ∷ slots) (s ∷ put_in p u slots))
    go true rest = stands
    go false rest = (stands.0, rest)
put-stands (q ∷ places) p u [] stands = stands
put-stands (q ∷ places) p u (s ∷ slots) stands = go (place_eq s.place p) (put-stands places p u slots stands.1)
  where
    go : (b : Bool) → Stands places (put_in p u slots) → Stands (q ∷ places) (cond b (record s { value = u } ∷ slots) (s ∷ put_in p u slots))
    go true rest = stands
    go false rest = (stands.0, rest)

-- ---- results

abbrev pub result_slot : ℕ → (ℕ × Value) → Slot
result_slot c v = record { place = result c v.0; value = Some v.1 }

results-stand : (c n : ℕ) (values : List Value) → Each (λ (s : Slot). is_result s.place ≡ true) (map (result_slot c) (enumerate_from n values))
results-stand c n [] = tt
results-stand c n (v ∷ values) = (refl, results-stand c (n + 1) values)

stands-append : (places : List Place) (slots more : List Slot) → Stands places slots → Each (λ (s : Slot). is_result s.place ≡ true) more → Stands places (slots ++ more)
stands-append [] [] more stands each = each
stands-append [] (s ∷ slots) more stands each = (stands.0, stands-append [] slots more stands.1 each)
stands-append (p ∷ places) [] more stands each = absurd stands
stands-append (p ∷ places) (s ∷ slots) more stands each = (stands.0, stands-append places slots more stands.1 each)

pub stands-results : (places : List Place) (slots : List Slot) (c : ℕ) (values : List Value) → Stands places slots → Stands places (slots ++ result_slots c values)
stands-results places slots c values stands = stands-append places slots (result_slots c values) stands (results-stand c 0 values)

results-good : (t : Transaction) (first : List Slot) (placed : List Placed) (c n : ℕ) (values : List Value) → Each IsSorted values → Every (Good t first placed) (map (result_slot c) (enumerate_from n values))
results-good t first placed c n [] sorted = tt
results-good t first placed c n (v ∷ values) sorted = (sorted.0, results-good t first placed c (n + 1) values sorted.1)

pub every-results : (t : Transaction) (first : List Slot) (placed : List Placed) (slots : List Slot) (c : ℕ) (values : List Value) → Each IsSorted values → Every (Good t first placed) slots → Every (Good t first placed) (slots ++ result_slots c values)
every-results t first placed slots c values sorted each = every-append (Good t first placed) slots (result_slots c values) each (results-good t first placed c 0 values sorted)

pub objects-sorted : (items : List Item) → Each IsSorted (map object items)
objects-sorted [] = tt
objects-sorted (i ∷ items) = (tt, objects-sorted items)

turned-vector : (b : Bool) (first : Option Value) (k : Kind) (is : List Item) → Turned b first (vector k is) → ⊥
turned-vector true first k is turned = turned
turned-vector false None k is turned = turned
turned-vector false (Some (pure bytes)) k is turned = turned
turned-vector false (Some (object before)) k is turned = turned
turned-vector false (Some (vector l before)) k is turned = turned

pub good-vector : (t : Transaction) (first : List Slot) (placed : List Placed) (p : Place) (k : Kind) (is : List Item) → Good t first placed p (Some (vector k is)) → Each (λ (i : Item). kind_eq (kind_of i.content) k ≡ true) is
good-vector t first placed gas k is good = absurd (turned-vector false (value_in gas first) k is good)
good-vector t first placed (input n) k is good = absurd (turned-vector (is_read_only (slice_get t.inputs n)) (value_in (input n) first) k is good)
good-vector t first placed (result d n) k is good = good

results-from : (w : Item → ℕ) (c n : ℕ) (values : List Value) → slots_weight w (map (result_slot c) (enumerate_from n values)) ≡ values_weight w values
results-from w c n [] = refl
results-from w c n (v ∷ values) = let rest = results-from w c (n + 1) values in omega (arith, rest)

pub results-weight : (w : Item → ℕ) (c : ℕ) (values : List Value) → slots_weight w (result_slots c values) ≡ values_weight w values
results-weight w c values = results-from w c 0 values
