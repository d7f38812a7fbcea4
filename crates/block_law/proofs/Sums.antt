-- What the objects after a block hold together, against what those before it held.
use Rattle.std.proofs.Common.{refl, ap, sym, subst, ◌∙◌}
use Rattle.std.specs.Prelude.{◌≡◌, ◌≤◌, ◌+◌, ℕ, suc, Bool, true, false, cond, List, [], ◌∷◌, ◌++◌, map, filter_map, find, slice_get, option_map, Option, Some, None}
use Rattle.std.specs.List.{list_any, cons_option}
use native.Mathlib.Omega.{arith}
use Rattle.digest_core.specs.declared.Digest.{Digest}
use Rattle.digest_core.specs.Tagged.{created_id_of}
use Rattle.chain_types.specs.declared.objects.ObjectId.{ObjectId}
use Rattle.chain_types.specs.declared.objects.Object.{Object}
use Rattle.chain_types.specs.declared.objects.Kind.{Kind}
use Rattle.chain_types.specs.declared.objects.Content.{Content}
use Rattle.chain_types.specs.declared.transactions.Input.{Input}
use Rattle.chain_types.specs.declared.transactions.Input.TheVariants as inputs
use Rattle.chain_types.specs.declared.transactions.Transaction.{Transaction}
use Rattle.chain_types.specs.Equal.{id_eq}
use Rattle.protocol_spec.specs.declared.pieces.Item.{Item}
use Rattle.protocol_spec.specs.declared.pieces.Placed.{Placed}
use Rattle.protocol_spec.proofs.Equality.{id_same, id_self}
use Rattle.protocol_spec.proofs.Truth.{or_false_left, or_false_right}
use Rattle.protocol_spec.specs.Chain.Words.{Each, numbers_below}
use Rattle.protocol_spec.specs.Block.Block.{Place, gas, input, result, Value, pure, object, vector, Slot, Block, value_in}
use Rattle.protocol_spec.specs.Block.Commands.{is_common, is_read_only, piece_of}
use Rattle.protocol_spec.specs.Block.Execution.{is_unused, is_left, item_of, input_slots, first_slots, first_block, object_at, left_in, now_in, after_block, written_inputs, written_places, created_objects}
use Rattle.block_law.specs.Names.{drawn_id, drawn_ids}
use Rattle.block_law.proofs.Counts.{hit, times, times-append, id_equal}
use Rattle.block_law.proofs.Slots.{value_weight, slots_weight, placed_weight, block_weight, Every, value-every}
use Rattle.block_law.proofs.Kept.{Turned, Good, is_result, Stands}
use Rattle.block_law.proofs.Steps.{counts}
use Rattle.block_law.proofs.Blocks.{Behind, behind-here, behind-next, first-behind, kept-start, IsDone}
use Rattle.block_law.proofs.Effects.{IsOrigin, origins, first_ids, good-id}

-- ---- what a written place holds

no-pure : (b : Bool) (first : Option Value) (before : Item) (bytes : List ℕ) → first ≡ Some (object before) → Turned b first (pure bytes) → ⊥
no-pure true first before bytes e turned = cc
no-pure false first before bytes e turned = subst (λ (v : Option Value). Turned false v (pure bytes)) e turned

no-vector : (b : Bool) (first : Option Value) (before : Item) (k : Kind) (is : List Item) → first ≡ Some (object before) → Turned b first (vector k is) → ⊥
no-vector true first before k is e turned = turned
no-vector false first before k is e turned = subst (λ (v : Option Value). Turned false v (vector k is)) e turned

place-no-pure : (t : Transaction) (first : List Slot) (placed : List Placed) (p : Place) (before : Item) (bytes : List ℕ) → value_in p first ≡ Some (object before) → is_result p ≡ false → Good t first placed p (Some (pure bytes)) → ⊥
place-no-pure t first placed gas before bytes e outer good = no-pure false (value_in gas first) before bytes e good
place-no-pure t first placed (input n) before bytes e outer good = no-pure (is_read_only (slice_get t.inputs n)) (value_in (input n) first) before bytes e good
place-no-pure t first placed (result c k) before bytes e outer good = cc

place-no-vector : (t : Transaction) (first : List Slot) (placed : List Placed) (p : Place) (before : Item) (k : Kind) (is : List Item) → value_in p first ≡ Some (object before) → is_result p ≡ false → Good t first placed p (Some (vector k is)) → ⊥
place-no-vector t first placed gas before k is e outer good = no-vector false (value_in gas first) before k is e good
place-no-vector t first placed (input n) before k is e outer good = no-vector (is_read_only (slice_get t.inputs n)) (value_in (input n) first) before k is e good
place-no-vector t first placed (result c l) before k is e outer good = cc

-- ---- weights of places

-- the ids of written places that are spent
abbrev pub spent_id : ObjectId → Option Value → Option ObjectId
spent_id id None = Some id
spent_id id (Some v) = None

abbrev pub spent_ids : List Slot → List (Place × Object) → List ObjectId
spent_ids slots xs = filter_map (λ (x : Place × Object). spent_id x.1.id (value_in x.0 slots)) xs

module _ (w : Item → ℕ) where
  abbrev pub places_weight : List Slot → List (Place × Object) → ℕ
  places_weight slots [] = 0
  places_weight slots (x ∷ xs) = value_weight w (value_in x.0 slots) + places_weight slots xs

  -- the objects that may only be read
  abbrev pub unwritten : List Input → List Object → ℕ
  unwritten [] os = 0
  unwritten (inputs.Pure bytes ∷ is) os = unwritten is os
  unwritten (inputs.Owned r ∷ is) [] = 0
  unwritten (inputs.Owned r ∷ is) (o ∷ os) = unwritten is os
  unwritten (inputs.Immutable r ∷ is) [] = 0
  unwritten (inputs.Immutable r ∷ is) (o ∷ os) = w (item_of o) + unwritten is os
  unwritten (inputs.Shared id initial mutable ∷ is) [] = 0
  unwritten (inputs.Shared id initial true ∷ is) (o ∷ os) = unwritten is os
  unwritten (inputs.Shared id initial false ∷ is) (o ∷ os) = w (item_of o) + unwritten is os

  -- results that are used up weigh nothing
  results-none : (slots : List Slot) → Each (λ (s : Slot). is_result s.place ≡ true) slots → list_any is_unused slots ≡ false → slots_weight w slots ≡ 0
  results-none [] results used = refl
  results-none (s ∷ slots) results used = go s.place s.value results.0 (or_false_left (is_unused s) (list_any is_unused slots) used) (results-none slots results.1 (or_false_right (is_unused s) (list_any is_unused slots) used))
    where
      go : (p : Place) (v : Option Value) → is_result p ≡ true → is_left p v ≡ false → slots_weight w slots ≡ 0 → value_weight w v + slots_weight w slots ≡ 0
      go p None ends used rest = omega (arith, rest)
      go gas (Some v) ends used rest = absurd (cc)
      go (input n) (Some v) ends used rest = absurd (cc)
      go (result c k) (Some v) is used rest = absurd (cc)

  -- pure bytes weigh nothing
  pure-weight : (b : Bool) (first : Option Value) (bytes : List ℕ) (v : Value) → first ≡ Some (pure bytes) → Turned b first v → value_weight w (Some v) ≡ 0
  pure-weight b first bytes (pure now) e turned = refl
  pure-weight true first bytes (object now) e turned = absurd (cc)
  pure-weight false first bytes (object now) e turned = absurd (subst (λ (f : Option Value). Turned false f (object now)) e turned)
  pure-weight true first bytes (vector k is) e turned = absurd turned
  pure-weight false first bytes (vector k is) e turned = absurd (subst (λ (f : Option Value). Turned false f (vector k is)) e turned)

  pure-place : (t : Transaction) (first : List Slot) (placed : List Placed) (n : ℕ) (bytes : List ℕ) (v : Option Value) → value_in (input n) first ≡ Some (pure bytes) → Good t first placed (input n) v → value_weight w v ≡ 0
  pure-place t first placed n bytes None e good = refl
  pure-place t first placed n bytes (Some v) e good = pure-weight (is_read_only (slice_get t.inputs n)) (value_in (input n) first) bytes v e good

  -- what may only be read is as it was
  read-weight : (first : Option Value) (before : Item) (v : Value) → first ≡ Some (object before) → Turned true first v → value_weight w (Some v) ≡ w before
  read-weight first before (pure now) e turned = absurd (cc)
  read-weight first before (object now) e turned = ap w (same e turned)
    where
      same : first ≡ Some (object before) → first ≡ Some (object now) → now ≡ before
      same f g = cc
  read-weight first before (vector k is) e turned = absurd turned

  read-place : (t : Transaction) (first : List Slot) (placed : List Placed) (n : ℕ) (i : Input) (before : Item) (v : Option Value) → slice_get t.inputs n ≡ Some i → is_read_only (Some i) ≡ true → is_common (Some i) ≡ true → value_in (input n) first ≡ Some (object before) → Good t first placed (input n) v → value_weight w v ≡ w before
  read-place t first placed n i before None at frozen common e good = absurd (let same = ap is_common at in cc)
  read-place t first placed n i before (Some v) at frozen common e good = read-weight (value_in (input n) first) before v e (subst (λ (b : Bool). Turned b (value_in (input n) first) v) (ap is_read_only at ∙ frozen) good)

  -- ---- a block's slots are its written places and what may only be read

  abbrev Agrees : Transaction → ℕ → List Input → Type 0
  Agrees t n is = (k : ℕ) → slice_get t.inputs (n + k) ≡ slice_get is k

  agrees-next : (t : Transaction) (n : ℕ) (i : Input) (is : List Input) → Agrees t n (i ∷ is) → Agrees t (suc n) is
  agrees-next t n i is agrees = λ k. let shift : suc n + k ≡ n + suc k = omega arith in ap (slice_get t.inputs) shift ∙ agrees (suc k)

  agrees-here : (t : Transaction) (n : ℕ) (i : Input) (is : List Input) → Agrees t n (i ∷ is) → slice_get t.inputs n ≡ Some i
  agrees-here t n i is agrees = let same : n ≡ n + 0 = omega arith in ap (slice_get t.inputs) same ∙ agrees 0

  abbrev slot_at : ℕ → Value → Slot
  slot_at n v = record { place = input n; value = Some v }

  -- what is known at input n, whose first slots and present slots begin here
  record At (t : Transaction) (first whole : List Slot) (placed : List Placed) (n : ℕ) (is : List Input) (firsts slots : List Slot) : Type 0 where
    agrees : Agrees t n is
    before : Behind first n firsts
    behind : Behind whole n slots
    stands : Stands (map (λ (s : Slot). s.place) firsts) slots
    good : Every (Good t first placed) slots
    used : list_any is_unused slots ≡ false

  next : (t : Transaction) (first whole : List Slot) (placed : List Placed) (n : ℕ) (i : Input) (is : List Input) (v : Value) (firsts : List Slot) (s : Slot) (slots : List Slot) → At t first whole placed n (i ∷ is) (slot_at n v ∷ firsts) (s ∷ slots) → At t first whole placed (suc n) is firsts slots
  next t first whole placed n i is v firsts s slots at = record {
    agrees = agrees-next t n i is at.agrees;
    before = behind-next first n (slot_at n v) firsts refl at.before;
    behind = behind-next whole n s slots at.stands.0 at.behind;
    stands = at.stands.1;
    good = at.good.1;
    used = or_false_right (is_unused s) (list_any is_unused slots) at.used;
  }

  at-pure : (t : Transaction) (first whole : List Slot) (placed : List Placed) (n : ℕ) (is : List Input) (bytes : List ℕ) (firsts : List Slot) (s : Slot) (slots : List Slot) → At t first whole placed n is (slot_at n (pure bytes) ∷ firsts) (s ∷ slots) → value_weight w s.value ≡ 0
  at-pure t first whole placed n is bytes firsts s slots at = pure-place t first placed n bytes s.value (behind-here first n (slot_at n (pure bytes)) firsts refl at.before) (subst (λ (p : Place). Good t first placed p s.value) at.stands.0 at.good.0)

  at-written : (t : Transaction) (first whole : List Slot) (placed : List Placed) (n : ℕ) (is : List Input) (v : Value) (firsts : List Slot) (s : Slot) (slots : List Slot) → At t first whole placed n is (slot_at n v ∷ firsts) (s ∷ slots) → value_weight w (value_in (input n) whole) ≡ value_weight w s.value
  at-written t first whole placed n is v firsts s slots at = ap (value_weight w) (behind-here whole n s slots at.stands.0 at.behind)

  at-read : (t : Transaction) (first whole : List Slot) (placed : List Placed) (n : ℕ) (i : Input) (is : List Input) (item : Item) (firsts : List Slot) (s : Slot) (slots : List Slot) → is_read_only (Some i) ≡ true → is_common (Some i) ≡ true → At t first whole placed n (i ∷ is) (slot_at n (object item) ∷ firsts) (s ∷ slots) → value_weight w s.value ≡ w item
  at-read t first whole placed n i is item firsts s slots frozen common at = read-place t first placed n i item s.value (agrees-here t n i is at.agrees) frozen common (behind-here first n (slot_at n (object item)) firsts refl at.before) (subst (λ (p : Place). Good t first placed p s.value) at.stands.0 at.good.0)

  inputs-weight : (t : Transaction) (first whole : List Slot) (placed : List Placed) (n : ℕ) (is : List Input) (os : List Object) (slots : List Slot) → At t first whole placed n is (input_slots n is os) slots → slots_weight w slots ≡ places_weight whole (written_inputs n is os) + unwritten is os
  inputs-weight t first whole placed n [] os slots at = results-none slots at.stands at.used
  inputs-weight t first whole placed n (inputs.Pure bytes ∷ is) os [] at = absurd at.stands
  inputs-weight t first whole placed n (inputs.Pure bytes ∷ is) os (s ∷ slots) at =
      let here = at-pure t first whole placed n (inputs.Pure bytes ∷ is) bytes (input_slots (suc n) is os) s slots at in
      let rest = inputs-weight t first whole placed (suc n) is os slots (next t first whole placed n (inputs.Pure bytes) is (pure bytes) (input_slots (suc n) is os) s slots at) in
      omega (arith, here, rest)
  inputs-weight t first whole placed n (inputs.Owned r ∷ is) [] slots at = results-none slots at.stands at.used
  inputs-weight t first whole placed n (inputs.Owned r ∷ is) (o ∷ os) [] at = absurd at.stands
  inputs-weight t first whole placed n (inputs.Owned r ∷ is) (o ∷ os) (s ∷ slots) at =
      let here = at-written t first whole placed n (inputs.Owned r ∷ is) (object (item_of o)) (input_slots (suc n) is os) s slots at in
      let rest = inputs-weight t first whole placed (suc n) is os slots (next t first whole placed n (inputs.Owned r) is (object (item_of o)) (input_slots (suc n) is os) s slots at) in
      omega (arith, here, rest)
  inputs-weight t first whole placed n (inputs.Immutable r ∷ is) [] slots at = results-none slots at.stands at.used
  inputs-weight t first whole placed n (inputs.Immutable r ∷ is) (o ∷ os) [] at = absurd at.stands
  inputs-weight t first whole placed n (inputs.Immutable r ∷ is) (o ∷ os) (s ∷ slots) at =
      let here = at-read t first whole placed n (inputs.Immutable r) is (item_of o) (input_slots (suc n) is os) s slots refl refl at in
      let rest = inputs-weight t first whole placed (suc n) is os slots (next t first whole placed n (inputs.Immutable r) is (object (item_of o)) (input_slots (suc n) is os) s slots at) in
      omega (arith, here, rest)
  inputs-weight t first whole placed n (inputs.Shared id initial mutable ∷ is) [] slots at = results-none slots at.stands at.used
  inputs-weight t first whole placed n (inputs.Shared id initial mutable ∷ is) (o ∷ os) [] at = absurd at.stands
  inputs-weight t first whole placed n (inputs.Shared id initial true ∷ is) (o ∷ os) (s ∷ slots) at =
      let here = at-written t first whole placed n (inputs.Shared id initial true ∷ is) (object (item_of o)) (input_slots (suc n) is os) s slots at in
      let rest = inputs-weight t first whole placed (suc n) is os slots (next t first whole placed n (inputs.Shared id initial true) is (object (item_of o)) (input_slots (suc n) is os) s slots at) in
      omega (arith, here, rest)
  inputs-weight t first whole placed n (inputs.Shared id initial false ∷ is) (o ∷ os) (s ∷ slots) at =
      let here = at-read t first whole placed n (inputs.Shared id initial false) is (item_of o) (input_slots (suc n) is os) s slots refl refl at in
      let rest = inputs-weight t first whole placed (suc n) is os slots (next t first whole placed n (inputs.Shared id initial false) is (object (item_of o)) (input_slots (suc n) is os) s slots at) in
      omega (arith, here, rest)

  -- the weight of all slots after a block is that of its written places and of its unwritten inputs
  pub whole-weight : (t : Transaction) (tx : Digest) (coin : Object) (os : List Object) (b : Block) → IsDone t tx (coin ∷ os) b → slots_weight w b.slots ≡ places_weight b.slots (written_places t (coin ∷ os)) + unwritten t.inputs os
  whole-weight t tx coin os b is = go b.slots is.kept.stands is.kept.good is.used
    where
      go : (slots : List Slot) → Stands (map (λ (s : Slot). s.place) (first_slots t (coin ∷ os))) slots → Every (Good t (first_slots t (coin ∷ os)) b.placed) slots → list_any is_unused slots ≡ false → slots_weight w slots ≡ places_weight slots (written_places t (coin ∷ os)) + unwritten t.inputs os
      go [] stands good used = absurd stands
      go (s ∷ slots) stands good used =
          let here : value_in gas (s ∷ slots) ≡ s.value = rw stands.0 refl in
          let same = ap (value_weight w) here in
          let rest = inputs-weight t (first_slots t (coin ∷ os)) (s ∷ slots) b.placed 0 t.inputs os slots (record {
            agrees = λ k. let zero_more : 0 + k ≡ k = omega arith in ap (slice_get t.inputs) zero_more;
            before = first-behind t coin os;
            behind = λ m above. rw stands.0 refl;
            stands = stands.1;
            good = good.1;
            used = or_false_right (is_unused s) (list_any is_unused slots) used;
          }) in
          omega (arith, same, rest)

-- ---- objects that left the block, found by their ids

module _ (f : Content → ℕ) where
  abbrev pub holds : Item → ℕ
  holds i = f i.content

  abbrev pub objects_weight : List Object → ℕ
  objects_weight [] = 0
  objects_weight (o ∷ os) = f o.content + objects_weight os

  abbrev pub option_weight : Option Object → ℕ
  option_weight None = 0
  option_weight (Some o) = f o.content

  abbrev pub ids_weight : ℕ → List Placed → List ObjectId → ℕ
  ids_weight version placed [] = 0
  ids_weight version placed (id ∷ ids) = option_weight (left_in version placed id) + ids_weight version placed ids

  pub objects-append : (xs ys : List Object) → objects_weight (xs ++ ys) ≡ objects_weight xs + objects_weight ys
  objects-append [] ys = omega arith
  objects-append (x ∷ xs) ys = let rest = objects-append xs ys in omega (arith, rest)

  pub ids-append : (version : ℕ) (placed : List Placed) (xs ys : List ObjectId) → ids_weight version placed (xs ++ ys) ≡ ids_weight version placed xs + ids_weight version placed ys
  ids-append version placed [] ys = omega arith
  ids-append version placed (x ∷ xs) ys = let rest = ids-append version placed xs ys in omega (arith, rest)

  nothing-left : (version : ℕ) (ids : List ObjectId) → ids_weight version [] ids ≡ 0
  nothing-left version [] = refl
  nothing-left version (id ∷ ids) = let rest = nothing-left version ids in omega (arith, rest)

  -- an object that is not there is not found
  not-left : (version : ℕ) (placed : List Placed) (id : ObjectId) → placed_weight (counts id) placed ≡ 0 → option_weight (left_in version placed id) ≡ 0
  not-left version [] id none = refl
  not-left version (p ∷ placed) id none = go (id_eq p.item.id id) refl (not-left version placed id)
    where
      go : (b : Bool) → id_eq p.item.id id ≡ b → (placed_weight (counts id) placed ≡ 0 → option_weight (left_in version placed id) ≡ 0)
          → option_weight (option_map (λ (p : Placed). object_at version p.owner p.item) (cond b (Some p) (find (λ (q : Placed). id_eq q.item.id id) placed))) ≡ 0
      go true h rest = absurd (let one = ap hit h in omega (arith, none, one))
      go false h rest = let zero_one = ap hit h in rest (omega (arith, none, zero_one))

  -- how much the first object adds to the ids
  adds : Placed → List ObjectId → ℕ
  adds p [] = 0
  adds p (id ∷ ids) = cond (id_eq p.item.id id) (f p.item.content) 0 + adds p ids

  adds-none : (p : Placed) (ids : List ObjectId) → times p.item.id ids ≡ 0 → adds p ids ≡ 0
  unfolding adds
  adds-none p [] none = refl
  adds-none p (id ∷ ids) none = go (id_eq p.item.id id) refl (adds-none p ids (omega (arith, none)))
    where
      go : (b : Bool) → id_eq p.item.id id ≡ b → adds p ids ≡ 0 → cond b (f p.item.content) 0 + adds p ids ≡ 0
      go true h rest = absurd (let one = ap hit (id_equal id p.item.id (sym (id_same p.item.id id h))) in omega (arith, none, one))
      go false h rest = omega (arith, rest)

  adds-one : (p : Placed) (ids : List ObjectId) → times p.item.id ids ≡ 1 → adds p ids ≡ f p.item.content
  unfolding adds
  adds-one p [] one = absurd (omega (arith, one))
  adds-one p (id ∷ ids) one = go (id_eq p.item.id id) refl (adds-one p ids) (adds-none p ids)
    where
      apart : id_eq p.item.id id ≡ false → id_eq id p.item.id ≡ false
      apart h = other (id_eq id p.item.id) refl
        where
          other : (c : Bool) → id_eq id p.item.id ≡ c → c ≡ false
          other true k = absurd (let same = id_equal p.item.id id (sym (id_same id p.item.id k)) in cc)
          other false k = refl

      go : (b : Bool) → id_eq p.item.id id ≡ b → (times p.item.id ids ≡ 1 → adds p ids ≡ f p.item.content) → (times p.item.id ids ≡ 0 → adds p ids ≡ 0) → cond b (f p.item.content) 0 + adds p ids ≡ f p.item.content
      go true h more none = let here = ap hit (id_equal id p.item.id (sym (id_same p.item.id id h))) in let rest = none (omega (arith, one, here)) in omega (arith, rest)
      go false h more none = let here = ap hit (apart h) in let rest = more (omega (arith, one, here)) in omega (arith, rest)

  -- the first object is found under its id, and the others as without it
  ids-cons : (version : ℕ) (p : Placed) (placed : List Placed) (ids : List ObjectId) → placed_weight (counts p.item.id) placed ≡ 0 → ids_weight version (p ∷ placed) ids ≡ adds p ids + ids_weight version placed ids
  unfolding adds
  ids-cons version p placed [] none = refl
  ids-cons version p placed (id ∷ ids) none = go (id_eq p.item.id id) refl (ids-cons version p placed ids none)
    where
      go : (b : Bool) → id_eq p.item.id id ≡ b → ids_weight version (p ∷ placed) ids ≡ adds p ids + ids_weight version placed ids
          → option_weight (option_map (λ (p : Placed). object_at version p.owner p.item) (cond b (Some p) (find (λ (q : Placed). id_eq q.item.id id) placed))) + ids_weight version (p ∷ placed) ids ≡ (cond b (f p.item.content) 0 + adds p ids) + (option_weight (left_in version placed id) + ids_weight version placed ids)
      go true h rest = let gone = not-left version placed id (subst (λ x. placed_weight (counts x) placed ≡ 0) (id_same p.item.id id h) none) in omega (arith, rest, gone)
      go false h rest = omega (arith, rest)

  pub find-sum : (version : ℕ) (placed : List Placed) (ids : List ObjectId) → ((x : ObjectId) → placed_weight (counts x) placed ≤ times x ids) → ((x : ObjectId) → times x ids ≤ 1) → ids_weight version placed ids ≡ placed_weight holds placed
  find-sum version [] ids there once = nothing-left version ids
  find-sum version (p ∷ placed) ids there once =
      let self = ap hit (id_self p.item.id) in
      let here : hit (id_eq p.item.id p.item.id) + placed_weight (counts p.item.id) placed ≤ times p.item.id ids = there p.item.id in
      let most = once p.item.id in
      let one = adds-one p ids (omega (arith, self, here, most)) in
      let others = ids-cons version p placed ids (omega (arith, self, here, most)) in
      let rest = find-sum version placed ids (λ x. let more : hit (id_eq p.item.id x) + placed_weight (counts x) placed ≤ times x ids = there x in omega (arith, more)) once in
      omega (arith, one, others, rest)

  -- ---- the objects that a block leaves

  pub after-weight : (t : Transaction) (first : List Slot) (version : ℕ) (b : Block) (xs : List (Place × Object)) → Each (IsOrigin first) xs → Every (Good t first b.placed) b.slots
      → objects_weight (filter_map (λ (x : Place × Object). after_block version b x.0 x.1) xs) ≡ places_weight holds b.slots xs + ids_weight version b.placed (spent_ids b.slots xs)
  after-weight t first version b [] origin good = refl
  after-weight t first version b (x ∷ xs) origin good = go (value_in x.0 b.slots) refl (after-weight t first version b xs origin.1 good)
    where
      rest_objects : List Object
      rest_objects = filter_map (λ (x : Place × Object). after_block version b x.0 x.1) xs

      gone : (a : Option Object) → objects_weight (cons_option a rest_objects) ≡ option_weight a + objects_weight rest_objects
      gone None = omega arith
      gone (Some o) = refl

      go : (v : Option Value) → value_in x.0 b.slots ≡ v → objects_weight rest_objects ≡ places_weight holds b.slots xs + ids_weight version b.placed (spent_ids b.slots xs)
          → objects_weight (cons_option (now_in version b.placed x.1 (piece_of v)) rest_objects) ≡ (value_weight holds v + places_weight holds b.slots xs) + ids_weight version b.placed (cons_option (spent_id x.1.id v) (spent_ids b.slots xs))
      go None h rest = let more = gone (left_in version b.placed x.1.id) in omega (arith, rest, more)
      go (Some (pure bytes)) h rest = absurd (place-no-pure t first b.placed x.0 origin.0.before bytes origin.0.there origin.0.outer (value-every (Good t first b.placed) x.0 (pure bytes) b.slots good h))
      go (Some (vector k is)) h rest = absurd (place-no-vector t first b.placed x.0 origin.0.before k is origin.0.there origin.0.outer (value-every (Good t first b.placed) x.0 (vector k is) b.slots good h))
      go (Some (object now)) h rest = omega (arith, rest)

  created-weight : (tx : Digest) (version : ℕ) (b : Block) (ns : List ℕ) → objects_weight (filter_map (λ n. left_in version b.placed (record { 0 = created_id_of tx n })) ns) ≡ ids_weight version b.placed (map (drawn_id tx) ns)
  created-weight tx version b [] = refl
  created-weight tx version b (n ∷ ns) = go (left_in version b.placed (drawn_id tx n)) (created-weight tx version b ns)
    where
      rest_objects : List Object
      rest_objects = filter_map (λ n. left_in version b.placed (record { 0 = created_id_of tx n })) ns

      go : (a : Option Object) → objects_weight rest_objects ≡ ids_weight version b.placed (map (drawn_id tx) ns) → objects_weight (cons_option a rest_objects) ≡ option_weight a + ids_weight version b.placed (map (drawn_id tx) ns)
      go None rest = omega (arith, rest)
      go (Some o) rest = omega (arith, rest)

-- ---- the ids of spent places

first-times : (first : List Slot) (x : ObjectId) (xs : List (Place × Object)) → Each (IsOrigin first) xs → places_weight (counts x) first xs ≡ times x (first_ids xs)
first-times first x [] origin = refl
first-times first x (y ∷ ys) origin =
    let rest = first-times first x ys origin.1 in
    let here = ap (value_weight (counts x)) origin.0.there in
    let same = ap (λ (i : ObjectId). hit (id_eq i x)) origin.0.same in
    omega (arith, rest, here, same)

spent-times : (t : Transaction) (first : List Slot) (b : Block) (x : ObjectId) (xs : List (Place × Object)) → Each (IsOrigin first) xs → Every (Good t first b.placed) b.slots → places_weight (counts x) b.slots xs + times x (spent_ids b.slots xs) ≡ times x (first_ids xs)
spent-times t first b x [] origin good = refl
spent-times t first b x (y ∷ ys) origin good = go (value_in y.0 b.slots) refl (spent-times t first b x ys origin.1 good)
  where
    go : (v : Option Value) → value_in y.0 b.slots ≡ v → places_weight (counts x) b.slots ys + times x (spent_ids b.slots ys) ≡ times x (first_ids ys)
        → (value_weight (counts x) v + places_weight (counts x) b.slots ys) + times x (cons_option (spent_id y.1.id v) (spent_ids b.slots ys)) ≡ hit (id_eq y.1.id x) + times x (first_ids ys)
    go None h rest = omega (arith, rest)
    go (Some (pure bytes)) h rest = absurd (place-no-pure t first b.placed y.0 origin.0.before bytes origin.0.there origin.0.outer (value-every (Good t first b.placed) y.0 (pure bytes) b.slots good h))
    go (Some (vector k is)) h rest = absurd (place-no-vector t first b.placed y.0 origin.0.before k is origin.0.there origin.0.outer (value-every (Good t first b.placed) y.0 (vector k is) b.slots good h))
    go (Some (object now)) h rest = let same = ap (λ (i : ObjectId). hit (id_eq i x)) (good-id t first b.placed y now origin.0 (value-every (Good t first b.placed) y.0 (object now) b.slots good h)) in omega (arith, rest, same)

first-used : (n : ℕ) (is : List Input) (os : List Object) → list_any is_unused (input_slots n is os) ≡ false
first-used n [] os = refl
first-used n (inputs.Pure bytes ∷ is) os = first-used (suc n) is os
first-used n (inputs.Owned r ∷ is) [] = refl
first-used n (inputs.Owned r ∷ is) (o ∷ os) = first-used (suc n) is os
first-used n (inputs.Immutable r ∷ is) [] = refl
first-used n (inputs.Immutable r ∷ is) (o ∷ os) = first-used (suc n) is os
first-used n (inputs.Shared id initial mutable ∷ is) [] = refl
first-used n (inputs.Shared id initial mutable ∷ is) (o ∷ os) = first-used (suc n) is os

-- the first block is one that is done, too
pub start-done : (t : Transaction) (tx : Digest) (coin : Object) (os : List Object) → IsDone t tx (coin ∷ os) (first_block t (coin ∷ os))
start-done t tx coin os = record { kept = kept-start t tx (coin ∷ os); used = first-used 0 t.inputs os }

-- what left the block has the id of a spent place, or a drawn one
pub placed-times : (t : Transaction) (tx : Digest) (coin : Object) (os : List Object) (b : Block) → IsDone t tx (coin ∷ os) b → (x : ObjectId) → placed_weight (counts x) b.placed ≤ times x (spent_ids b.slots (written_places t (coin ∷ os)) ++ drawn_ids tx b.made)
placed-times t tx coin os b is x =
    let ids = is.kept.ids x in
    let now = whole-weight (counts x) t tx coin os b is in
    let then = whole-weight (counts x) t tx coin os (first_block t (coin ∷ os)) (start-done t tx coin os) in
    let first = first-times (first_slots t (coin ∷ os)) x (written_places t (coin ∷ os)) (origins t (coin ∷ os)) in
    let spent = spent-times t (first_slots t (coin ∷ os)) b x (written_places t (coin ∷ os)) (origins t (coin ∷ os)) is.kept.good in
    let both = times-append x (spent_ids b.slots (written_places t (coin ∷ os))) (drawn_ids tx b.made) in
    omega (arith, ids, now, then, first, spent, both)

pub spent-most : (slots : List Slot) (x : ObjectId) (xs : List (Place × Object)) → times x (spent_ids slots xs) ≤ times x (first_ids xs)
spent-most slots x [] = omega arith
spent-most slots x (y ∷ ys) = go (value_in y.0 slots) (spent-most slots x ys)
  where
    go : (v : Option Value) → times x (spent_ids slots ys) ≤ times x (first_ids ys) → times x (cons_option (spent_id y.1.id v) (spent_ids slots ys)) ≤ hit (id_eq y.1.id x) + times x (first_ids ys)
    go None rest = omega (arith, rest)
    go (Some v) rest = omega (arith, rest)

-- what the written objects weigh after the block, but for the rest of the gas
pub left-weight : (f : Content → ℕ) (t : Transaction) (tx : Digest) (version : ℕ) (coin : Object) (os : List Object) (b : Block) → IsDone t tx (coin ∷ os) b → ((x : ObjectId) → times x (first_ids (written_places t (coin ∷ os))) + times x (drawn_ids tx b.made) ≤ 1)
    → objects_weight f (filter_map (λ (x : Place × Object). after_block version b x.0 x.1) (written_places t (coin ∷ os))) + objects_weight f (created_objects tx version b) + unwritten (holds f) t.inputs os ≡ block_weight (holds f) b
left-weight f t tx version coin os b is apart =
    let xs : List (Place × Object) = written_places t (coin ∷ os) in
    let after = after-weight f t (first_slots t (coin ∷ os)) version b (written_places t (coin ∷ os)) (origins t (coin ∷ os)) is.kept.good in
    let created = created-weight f tx version b (numbers_below b.made) in
    let both = ids-append f version b.placed (spent_ids b.slots (written_places t (coin ∷ os))) (drawn_ids tx b.made) in
    let found = find-sum f version b.placed (spent_ids b.slots (written_places t (coin ∷ os)) ++ drawn_ids tx b.made) (placed-times t tx coin os b is)
    (λ x. let split = times-append x (spent_ids b.slots (written_places t (coin ∷ os))) (drawn_ids tx b.made) in let most = spent-most b.slots x (written_places t (coin ∷ os)) in let once = apart x in omega (arith, split, most, once)) in
    let whole = whole-weight (holds f) t tx coin os b is in
    omega (arith, after, created, both, found, whole)
