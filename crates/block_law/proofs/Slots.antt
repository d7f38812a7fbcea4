-- The places of a block: what a change of one leaves of the others, and of what all of them weigh.
use Rattle.std.proofs.Common.{refl, ap, sym, subst, ◌∙◌}
use Rattle.std.proofs.lemmas.Bool.{eqb-true}
use Rattle.std.specs.Prelude.{◌≡◌, ◌+◌, ℕ, Bool, true, false, cond, ◌==◌, List, [], ◌∷◌, ◌++◌, map, find, option_and_then, Option, Some, None}
use native.Mathlib.Omega.{arith}
use Rattle.chain_types.specs.declared.transactions.Argument.{Argument}
use Rattle.protocol_spec.specs.declared.pieces.Item.{Item}
use Rattle.protocol_spec.specs.declared.pieces.Placed.{Placed}
use Rattle.protocol_spec.specs.Chain.Words.{Each}
use Rattle.protocol_spec.proofs.ListLemmas.{and-first, and-second}
use Rattle.protocol_spec.specs.Block.Block.{Place, gas, input, result, Value, pure, object, vector, Slot, Block, place_eq, slot_value, value_in, put_in}
use Rattle.protocol_spec.specs.Block.Commands.{place_of, spend, spend_all}

-- ---- places

pub place-same : (p q : Place) → place_eq p q ≡ true → p ≡ q
place-same gas gas e = refl
place-same (input a) (input b) e = ap input (eqb-true a b e)
place-same (result a i) (result b j) e = ap (λ n. result n i) (eqb-true a b (and-first (a == b) (i == j) e)) ∙ ap (result b) (eqb-true i j (and-second (a == b) (i == j) e))
place-same gas (input b) e = absurd (cc)
place-same gas (result b j) e = absurd (cc)
place-same (input a) gas e = absurd (cc)
place-same (input a) (result b j) e = absurd (cc)
place-same (result a i) gas e = absurd (cc)
place-same (result a i) (input b) e = absurd (cc)

-- ---- what lies in a place

pub value-cons : (q : Place) (s : Slot) (xs ys : List Slot) → value_in q xs ≡ value_in q ys → value_in q (s ∷ xs) ≡ value_in q (s ∷ ys)
value-cons q s xs ys e = go (place_eq s.place q)
  where
    go : (b : Bool) → option_and_then slot_value (cond b (Some s) (find (λ (s : Slot). place_eq s.place q) xs)) ≡ option_and_then slot_value (cond b (Some s) (find (λ (s : Slot). place_eq s.place q) ys))
    go true = refl
    go false = e

-- a change of another place
pub value-other : (p q : Place) (u : Option Value) (slots : List Slot) → place_eq p q ≡ false → value_in q (put_in p u slots) ≡ value_in q slots
value-other p q u [] e = refl
value-other p q u (s ∷ slots) e = go (place_eq s.place p) refl (value-other p q u slots e)
  where
    go : (b : Bool) → place_eq s.place p ≡ b → value_in q (put_in p u slots) ≡ value_in q slots → value_in q (cond b (record s { value = u } ∷ slots) (s ∷ put_in p u slots)) ≡ value_in q (s ∷ slots)
    go true h rest = let n : place_eq s.place q ≡ false = subst (λ z. place_eq z q ≡ false) (sym (place-same s.place p h)) e in rw n refl
    go false h rest = value-cons q s (put_in p u slots) slots rest

-- ---- weights: what all items of a block weigh together

module _ (w : Item → ℕ) where
  abbrev pub items_weight : List Item → ℕ
  items_weight [] = 0
  items_weight (i ∷ is) = w i + items_weight is

  abbrev pub value_weight : Option Value → ℕ
  value_weight None = 0
  value_weight (Some (pure bytes)) = 0
  value_weight (Some (object i)) = w i
  value_weight (Some (vector k is)) = items_weight is

  abbrev pub values_weight : List Value → ℕ
  values_weight [] = 0
  values_weight (v ∷ vs) = value_weight (Some v) + values_weight vs

  abbrev pub slots_weight : List Slot → ℕ
  slots_weight [] = 0
  slots_weight (s ∷ slots) = value_weight s.value + slots_weight slots

  abbrev pub placed_weight : List Placed → ℕ
  placed_weight [] = 0
  placed_weight (p ∷ ps) = w p.item + placed_weight ps

  abbrev pub block_weight : Block → ℕ
  block_weight b = slots_weight b.slots + placed_weight b.placed

  pub items-append : (xs ys : List Item) → items_weight (xs ++ ys) ≡ items_weight xs + items_weight ys
  items-append [] ys = omega arith
  items-append (x ∷ xs) ys = let rest = items-append xs ys in omega (arith, rest)

  pub slots-append : (xs ys : List Slot) → slots_weight (xs ++ ys) ≡ slots_weight xs + slots_weight ys
  slots-append [] ys = omega arith
  slots-append (x ∷ xs) ys = let rest = slots-append xs ys in omega (arith, rest)

  pub placed-append : (xs ys : List Placed) → placed_weight (xs ++ ys) ≡ placed_weight xs + placed_weight ys
  placed-append [] ys = omega arith
  placed-append (x ∷ xs) ys = let rest = placed-append xs ys in omega (arith, rest)

  pub objects-weight : (is : List Item) → values_weight (map object is) ≡ items_weight is
  objects-weight [] = refl
  objects-weight (i ∷ is) = let rest = objects-weight is in omega (arith, rest)

  pub put-weight : (p : Place) (u : Option Value) (v : Value) (slots : List Slot) → value_in p slots ≡ Some v → slots_weight (put_in p u slots) + value_weight (Some v) ≡ slots_weight slots + value_weight u
  put-weight p u v [] e = absurd (cc)
  put-weight p u v (s ∷ slots) e = go (place_eq s.place p) e (put-weight p u v slots)
    where
      go : (b : Bool) → option_and_then slot_value (cond b (Some s) (find (λ (s : Slot). place_eq s.place p) slots)) ≡ Some v
          → (value_in p slots ≡ Some v → slots_weight (put_in p u slots) + value_weight (Some v) ≡ slots_weight slots + value_weight u)
          → slots_weight (cond b (record s { value = u } ∷ slots) (s ∷ put_in p u slots)) + value_weight (Some v) ≡ (value_weight s.value + slots_weight slots) + value_weight u
      go true e rest = let same = ap value_weight e in omega (arith, same)
      go false e rest = let r = rest e in omega (arith, r)

-- ---- facts that hold of each place and what lies in it

module _ (P : Place → Option Value → Type 0) where
  abbrev pub Every : List Slot → Type 0
  Every slots = Each (λ (s : Slot). P s.place s.value) slots

  pub put-every : (p : Place) (u : Option Value) (slots : List Slot) → Every slots → P p u → Every (put_in p u slots)
  put-every p u [] each here = tt
  put-every p u (s ∷ slots) each here = go (place_eq s.place p) refl (put-every p u slots each.1 here)
    where
      go : (b : Bool) → place_eq s.place p ≡ b → Every (put_in p u slots) → Every (cond b (record s { value = u } ∷ slots) (s ∷ put_in p u slots))
      go true h rest = (subst (λ z. P z u) (sym (place-same s.place p h)) here, each.1)
      go false h rest = (each.0, rest)

  pub value-every : (p : Place) (v : Value) (slots : List Slot) → Every slots → value_in p slots ≡ Some v → P p (Some v)
  value-every p v [] each e = absurd (cc)
  value-every p v (s ∷ slots) each e = go (place_eq s.place p) refl e (value-every p v slots each.1)
    where
      go : (b : Bool) → place_eq s.place p ≡ b → option_and_then slot_value (cond b (Some s) (find (λ (s : Slot). place_eq s.place p) slots)) ≡ Some v → (value_in p slots ≡ Some v → P p (Some v)) → P p (Some v)
      go true h e rest = subst (λ z. P z (Some v)) (place-same s.place p h) (subst (λ z. P s.place z) e each.0)
      go false h e rest = rest e

  pub every-append : (xs ys : List Slot) → Every xs → Every ys → Every (xs ++ ys)
  every-append [] ys each more = more
  every-append (x ∷ xs) ys each more = (each.0, every-append xs ys each.1 more)

-- ---- the places of some arguments, which are apart, and what lies in them

abbrev pub Others : Place → List Argument → Type 0
Others p args = Each (λ (a : Argument). place_eq p (place_of a) ≡ false) args

abbrev pub Lies : List Slot → List Argument → List Value → Type 0
Lies slots [] [] = Unit {0}
Lies slots (a ∷ args) (v ∷ values) = (value_in (place_of a) slots ≡ Some v) × (Others (place_of a) args × Lies slots args values)
Lies slots [] (v ∷ values) = ⊥
Lies slots (a ∷ args) [] = ⊥

pub lies-put : (p : Place) (u : Option Value) (slots : List Slot) (args : List Argument) (values : List Value) → Others p args → Lies slots args values → Lies (put_in p u slots) args values
lies-put p u slots [] [] others lies = tt
lies-put p u slots (a ∷ args) (v ∷ values) others lies = (value-other p (place_of a) u slots others.0 ∙ lies.0, (lies.1.0, lies-put p u slots args values others.1 lies.1.1))
lies-put p u slots [] (v ∷ values) others lies = lies
lies-put p u slots (a ∷ args) [] others lies = lies

-- ---- spending them

pub spend-weight : (w : Item → ℕ) (args : List Argument) (values : List Value) (b : Block) → Lies b.slots args values → slots_weight w (spend_all args b).slots + values_weight w values ≡ slots_weight w b.slots
spend-weight w [] [] b lies = omega arith
spend-weight w (a ∷ args) (v ∷ values) b lies =
    let one = put-weight w (place_of a) None v b.slots lies.0 in
    let rest = spend-weight w args values (spend a b) (lies-put (place_of a) None b.slots args values lies.1.0 lies.1.1) in
    omega (arith, one, rest)
spend-weight w [] (v ∷ values) b lies = absurd lies
spend-weight w (a ∷ args) [] b lies = absurd lies

pub spend-placed : (args : List Argument) (b : Block) → (spend_all args b).placed ≡ b.placed
spend-placed [] b = refl
spend-placed (a ∷ args) b = spend-placed args (spend a b)

pub spend-made : (args : List Argument) (b : Block) → (spend_all args b).made ≡ b.made
spend-made [] b = refl
spend-made (a ∷ args) b = spend-made args (spend a b)

pub spend-other : (q : Place) (args : List Argument) (b : Block) → Each (λ (a : Argument). place_eq (place_of a) q ≡ false) args → value_in q (spend_all args b).slots ≡ value_in q b.slots
spend-other q [] b others = refl
spend-other q (a ∷ args) b others = spend-other q args (spend a b) others.1 ∙ value-other (place_of a) q None b.slots others.0

pub spend-every : (P : Place → Option Value → Type 0) (args : List Argument) (b : Block) → Each (λ (a : Argument). P (place_of a) None) args → Every P b.slots → Every P (spend_all args b).slots
spend-every P [] b gone each = each
spend-every P (a ∷ args) b gone each = spend-every P args (spend a b) gone.1 (put-every P (place_of a) None b.slots each gone.0)
