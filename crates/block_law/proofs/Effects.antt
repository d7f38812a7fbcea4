-- Which ids the effects of a transaction name.
use Rattle.std.proofs.Common.{refl, ap, sym, subst, ◌∙◌}
use Rattle.std.specs.Prelude.{◌≡◌, ◌≤◌, ◌+◌, ℕ, suc, Bool, true, false, cond, ◌&&◌, ◌==◌, nat_lt, List, [], ◌∷◌, ◌++◌, map, filter_map, find, slice_get, option_map, Option, Some, None, Result, Ok, Err}
use Rattle.std.specs.List.{cons_option}
use native.Mathlib.Omega.{arith}
use Rattle.digest_core.specs.declared.Digest.{Digest}
use Rattle.digest_core.specs.Tagged.{created_id_of}
use Rattle.chain_types.specs.declared.objects.ObjectId.{ObjectId}
use Rattle.chain_types.specs.declared.objects.Object.{Object}
use Rattle.chain_types.specs.declared.transactions.Input.{Input}
use Rattle.chain_types.specs.declared.transactions.Input.TheVariants as inputs
use Rattle.chain_types.specs.declared.transactions.Transaction.{Transaction}
use Rattle.effects_core.specs.declared.effects.Written.{Written}
use Rattle.protocol_spec.specs.declared.pieces.Item.{Item}
use Rattle.protocol_spec.specs.declared.pieces.Placed.{Placed}
use Rattle.chain_types.specs.Equal.{digest_eq, id_eq}
use Rattle.chain_types.specs.Digests.{transaction_digest, digest_of_object}
use Rattle.protocol_spec.proofs.Equality.{id_same}
use Rattle.protocol_spec.specs.Chain.Words.{Each, numbers_below, repeats}
use Rattle.protocol_spec.specs.Chain.Tests.{has_id}
use Rattle.protocol_spec.specs.Chain.Keys.{fits, fits_input, fit_inputs, pays_gas, version_of, version_limit, objects_of, named_id, named_ids, is_owned_by, is_immutable, is_shared_since}
use Rattle.protocol_spec.proofs.ListLemmas.{find-test, and-first, and-second}
use Rattle.protocol_spec.specs.Block.Block.{Place, gas, input, result, Value, pure, object, vector, Slot, Block, value_in}
use Rattle.protocol_spec.specs.Block.Commands.{is_read_only, piece_of}
use Rattle.protocol_spec.specs.Block.Execution.{Failure, item_of, gas_item, input_slots, first_slots, outcome, object_at, left_in, now_in, after_block, written_inputs, written_places, created_objects, with_rest_first, done_objects, is_none_left, deleted_id, deleted_ids, same_object, less_cost_first, failed_objects, written_of, execution, executed_by}
use Rattle.block_law.specs.Names.{drawn_id, drawn_ids, touched_ids, effect_ids}
use Rattle.block_law.proofs.Counts.{hit, times, times-append, once-each, each-once, none-times, times-none}
use Rattle.block_law.proofs.Slots.{Every, value-every}
use Rattle.block_law.proofs.Kept.{Turned, Good, is_result}
use Rattle.block_law.proofs.Steps.{map-append}
use Rattle.block_law.proofs.Blocks.{Behind, behind-here, behind-next, first-behind, done-is}

-- ---- the places that are written, with what lay there first

pub record IsOrigin (first : List Slot) (x : Place × Object) : Type 0 where
  pub before : Item
  pub there : value_in x.0 first ≡ Some (object before)
  pub same : before.id ≡ x.1.id
  pub outer : is_result x.0 ≡ false

pub record IsInput (first : List Slot) (x : Place × Object) : Type 0 where
  pub there : value_in x.0 first ≡ Some (object (item_of x.1))
  pub outer : is_result x.0 ≡ false

pub inputs-first : (whole : List Slot) (n : ℕ) (is : List Input) (os : List Object) → Behind whole n (input_slots n is os) → Each (IsInput whole) (written_inputs n is os)
inputs-first whole n [] os behind = tt
inputs-first whole n (inputs.Pure bytes ∷ is) os behind = inputs-first whole (suc n) is os (behind-next whole n (record { place = input n; value = Some (pure bytes) }) (input_slots (suc n) is os) refl behind)
inputs-first whole n (inputs.Owned r ∷ is) [] behind = tt
inputs-first whole n (inputs.Owned r ∷ is) (o ∷ os) behind = (
  record { there = behind-here whole n (record { place = input n; value = Some (object (item_of o)) }) (input_slots (suc n) is os) refl behind; outer = refl },
  inputs-first whole (suc n) is os (behind-next whole n (record { place = input n; value = Some (object (item_of o)) }) (input_slots (suc n) is os) refl behind),
)
inputs-first whole n (inputs.Immutable r ∷ is) [] behind = tt
inputs-first whole n (inputs.Immutable r ∷ is) (o ∷ os) behind = inputs-first whole (suc n) is os (behind-next whole n (record { place = input n; value = Some (object (item_of o)) }) (input_slots (suc n) is os) refl behind)
inputs-first whole n (inputs.Shared id initial mutable ∷ is) [] behind = tt
inputs-first whole n (inputs.Shared id initial true ∷ is) (o ∷ os) behind = (
  record { there = behind-here whole n (record { place = input n; value = Some (object (item_of o)) }) (input_slots (suc n) is os) refl behind; outer = refl },
  inputs-first whole (suc n) is os (behind-next whole n (record { place = input n; value = Some (object (item_of o)) }) (input_slots (suc n) is os) refl behind),
)
inputs-first whole n (inputs.Shared id initial false ∷ is) (o ∷ os) behind = inputs-first whole (suc n) is os (behind-next whole n (record { place = input n; value = Some (object (item_of o)) }) (input_slots (suc n) is os) refl behind)

input-origins : (first : List Slot) (xs : List (Place × Object)) → Each (IsInput first) xs → Each (IsOrigin first) xs
input-origins first [] inputs = tt
input-origins first (x ∷ xs) inputs = (record { before = item_of x.1; there = inputs.0.there; same = refl; outer = inputs.0.outer }, input-origins first xs inputs.1)

pub origins : (t : Transaction) (objects : List Object) → Each (IsOrigin (first_slots t objects)) (written_places t objects)
origins t [] = tt
origins t (coin ∷ os) = (record { before = gas_item t coin; there = refl; same = refl; outer = refl }, input-origins (first_slots t (coin ∷ os)) (written_inputs 0 t.inputs os) (inputs-first (first_slots t (coin ∷ os)) 0 t.inputs os (first-behind t coin os)))

-- ---- ids in their places

turned-id : (b : Bool) (first : Option Value) (before now : Item) → first ≡ Some (object before) → Turned b first (object now) → now.id ≡ before.id
turned-id true first before now e turned = ap (λ (i : Item). i.id) (same-item (e_back e turned))
  where
    same-item : object now ≡ object before → now ≡ before
    same-item h = cc

    e_back : first ≡ Some (object before) → first ≡ Some (object now) → object now ≡ object before
    e_back f g = cc
turned-id false first before now e turned = (subst (λ (v : Option Value). Turned false v (object now)) e turned).0

pub good-id : (t : Transaction) (first : List Slot) (placed : List Placed) (x : Place × Object) (now : Item) → IsOrigin first x → Good t first placed x.0 (Some (object now)) → now.id ≡ x.1.id
good-id t first placed x now origin good = go x.0 origin.there origin.outer good ∙ origin.same
  where
    go : (p : Place) → value_in p first ≡ Some (object origin.before) → is_result p ≡ false → Good t first placed p (Some (object now)) → now.id ≡ origin.before.id
    go gas there outer good = turned-id false (value_in gas first) origin.before now there good
    go (input n) there outer good = turned-id (is_read_only (slice_get t.inputs n)) (value_in (input n) first) origin.before now there good
    go (result c k) there outer good = absurd (cc)

-- an object that left the block is found under its id
pub left-id : (version : ℕ) (placed : List Placed) (id : ObjectId) (o : Object) → left_in version placed id ≡ Some o → o.id ≡ id
left-id version placed id o e = go (find (λ (p : Placed). id_eq p.item.id id) placed) refl e
  where
    go : (f : Option Placed) → find (λ (p : Placed). id_eq p.item.id id) placed ≡ f → option_map (λ (p : Placed). object_at version p.owner p.item) f ≡ Some o → o.id ≡ id
    go None h e = absurd (cc)
    go (Some p) h e = ap (λ (x : Object). x.id) (sym (same p e)) ∙ id_same p.item.id id (find-test (λ (q : Placed). id_eq q.item.id id) placed p h)
      where
        same : (p : Placed) → Some (object_at version p.owner p.item) ≡ Some o → object_at version p.owner p.item ≡ o
        same p e = cc

-- what is in a place or came from it has its id
pub after-id : (t : Transaction) (first : List Slot) (version : ℕ) (b : Block) (x : Place × Object) (o : Object) → IsOrigin first x → Every (Good t first b.placed) b.slots → after_block version b x.0 x.1 ≡ Some o → o.id ≡ x.1.id
after-id t first version b x o origin good e = go (value_in x.0 b.slots) refl e
  where
    go : (v : Option Value) → value_in x.0 b.slots ≡ v → now_in version b.placed x.1 (piece_of v) ≡ Some o → o.id ≡ x.1.id
    go None h e = left-id version b.placed x.1.id o e
    go (Some (pure bytes)) h e = left-id version b.placed x.1.id o e
    go (Some (vector k is)) h e = left-id version b.placed x.1.id o e
    go (Some (object now)) h e = ap (λ (y : Object). y.id) (sym (same now e)) ∙ good-id t first b.placed x now origin (value-every (Good t first b.placed) x.0 (object now) b.slots good h)
      where
        same : (now : Item) → Some (object_at version x.1.owner now) ≡ Some o → object_at version x.1.owner now ≡ o
        same now e = cc

-- ---- counts of written and deleted ids

abbrev pub id_of : Object → ObjectId
id_of o = o.id

abbrev pub first_ids : List (Place × Object) → List ObjectId
first_ids xs = map (λ (x : Place × Object). x.1.id) xs

pub places-once : (t : Transaction) (first : List Slot) (version : ℕ) (b : Block) (xs : List (Place × Object)) (y : ObjectId) → Each (IsOrigin first) xs → Every (Good t first b.placed) b.slots
    → times y (map id_of (filter_map (λ (x : Place × Object). after_block version b x.0 x.1) xs)) + times y (filter_map (deleted_id version b) xs) ≡ times y (first_ids xs)
places-once t first version b [] y origin good = refl
places-once t first version b (x ∷ xs) y origin good = go (after_block version b x.0 x.1) refl (places-once t first version b xs y origin.1 good)
  where
    rest_ids : List Object
    rest_ids = filter_map (λ (x : Place × Object). after_block version b x.0 x.1) xs

    gone_ids : List ObjectId
    gone_ids = filter_map (deleted_id version b) xs

    go : (a : Option Object) → after_block version b x.0 x.1 ≡ a → times y (map id_of rest_ids) + times y gone_ids ≡ times y (first_ids xs)
        → times y (map id_of (cons_option a rest_ids)) + times y (cons_option (cond (is_none_left a) (Some x.1.id) None) gone_ids) ≡ hit (id_eq x.1.id y) + times y (first_ids xs)
    go None h rest = omega (arith, rest)
    go (Some o) h rest = let same = ap (λ (i : ObjectId). hit (id_eq i y)) (after-id t first version b x o origin.0 good h) in omega (arith, rest, same)

created-from : (tx : Digest) (version : ℕ) (b : Block) (ns : List ℕ) (y : ObjectId) → times y (map id_of (filter_map (λ n. left_in version b.placed (record { 0 = created_id_of tx n })) ns)) ≤ times y (map (drawn_id tx) ns)
created-from tx version b [] y = omega arith
created-from tx version b (n ∷ ns) y = go (left_in version b.placed (drawn_id tx n)) refl (created-from tx version b ns y)
  where
    rest_ids : List Object
    rest_ids = filter_map (λ n. left_in version b.placed (record { 0 = created_id_of tx n })) ns

    go : (a : Option Object) → left_in version b.placed (drawn_id tx n) ≡ a → times y (map id_of rest_ids) ≤ times y (map (drawn_id tx) ns) → times y (map id_of (cons_option a rest_ids)) ≤ hit (id_eq (drawn_id tx n) y) + times y (map (drawn_id tx) ns)
    go None h rest = omega (arith, rest)
    go (Some o) h rest = let same = ap (λ (i : ObjectId). hit (id_eq i y)) (left-id version b.placed (drawn_id tx n) o h) in omega (arith, rest, same)

pub rest-ids : (t : Transaction) (os : List Object) → map id_of (with_rest_first t os) ≡ map id_of os
rest-ids t [] = refl
rest-ids t (o ∷ os) = refl

pub cost-ids : (t : Transaction) (os : List Object) → map id_of (less_cost_first t os) ≡ map id_of os
cost-ids t [] = refl
cost-ids t (o ∷ os) = refl

pub same-ids : (version : ℕ) (xs : List (Place × Object)) → map id_of (map (λ (x : Place × Object). same_object version x.1) xs) ≡ first_ids xs
same-ids version [] = refl
same-ids version (x ∷ xs) = ap (λ ids. x.1.id ∷ ids) (same-ids version xs)

pub written-ids : (os : List Object) → map (λ (w : Written). w.id) (map written_of os) ≡ map id_of os
written-ids [] = refl
written-ids (o ∷ os) = ap (λ ids. o.id ∷ ids) (written-ids os)

-- ---- the named ids are those of the objects

pub first-of-four : (a b c d : Bool) → (a && b && c && d) ≡ true → a ≡ true
first-of-four a b c d e = and-first a b (and-first (a && b) c (and-first (a && b && c) d e))

both-ids : (a b : ObjectId) (xs ys : List ObjectId) → id_eq a b ≡ true → xs ≡ ys → (a ∷ xs) ≡ (b ∷ ys)
both-ids a b xs ys h e = let same = id_same a b h in cc

inputs-ids : (n : ℕ) (is : List Input) (os : List Object) (y : ObjectId) → times y (first_ids (written_inputs n is os)) ≤ times y (map id_of os)
inputs-ids n [] os y = omega arith
inputs-ids n (inputs.Pure bytes ∷ is) os y = inputs-ids (suc n) is os y
inputs-ids n (inputs.Owned r ∷ is) [] y = omega arith
inputs-ids n (inputs.Owned r ∷ is) (o ∷ os) y = let rest = inputs-ids (suc n) is os y in omega (arith, rest)
inputs-ids n (inputs.Immutable r ∷ is) [] y = omega arith
inputs-ids n (inputs.Immutable r ∷ is) (o ∷ os) y = let rest = inputs-ids (suc n) is os y in omega (arith, rest)
inputs-ids n (inputs.Shared id initial mutable ∷ is) [] y = omega arith
inputs-ids n (inputs.Shared id initial true ∷ is) (o ∷ os) y = let rest = inputs-ids (suc n) is os y in omega (arith, rest)
inputs-ids n (inputs.Shared id initial false ∷ is) (o ∷ os) y = let rest = inputs-ids (suc n) is os y in omega (arith, rest)

pub places-ids : (t : Transaction) (objects : List Object) (y : ObjectId) → times y (first_ids (written_places t objects)) ≤ times y (map id_of objects)
places-ids t [] y = omega arith
places-ids t (coin ∷ os) y = let rest = inputs-ids 0 t.inputs os y in omega (arith, rest)

fit-ids : (t : Transaction) (is : List Input) (os : List Object) → fit_inputs t is os ≡ true → map id_of os ≡ filter_map named_id is
fit-ids t [] [] e = refl
fit-ids t [] (o ∷ os) e = absurd (cc)
fit-ids t (i ∷ is) [] e = absurd (cc)
fit-ids t (inputs.Pure bytes ∷ is) (o ∷ os) e = absurd (cc)
fit-ids t (inputs.Owned r ∷ is) (o ∷ os) e = both-ids o.id r.id (map id_of os) (filter_map named_id is) (first-of-four (id_eq o.id r.id) (o.version == r.version) (digest_eq (digest_of_object o) r.digest) (is_owned_by t.sender o.owner) (and-first (fits_input t (inputs.Owned r) o) (fit_inputs t is os) e)) (fit-ids t is os (and-second (fits_input t (inputs.Owned r) o) (fit_inputs t is os) e))
fit-ids t (inputs.Immutable r ∷ is) (o ∷ os) e = both-ids o.id r.id (map id_of os) (filter_map named_id is) (first-of-four (id_eq o.id r.id) (o.version == r.version) (digest_eq (digest_of_object o) r.digest) (is_immutable o.owner) (and-first (fits_input t (inputs.Immutable r) o) (fit_inputs t is os) e)) (fit-ids t is os (and-second (fits_input t (inputs.Immutable r) o) (fit_inputs t is os) e))
fit-ids t (inputs.Shared id initial mutable ∷ is) (o ∷ os) e = both-ids o.id id (map id_of os) (filter_map named_id is) (and-first (id_eq o.id id) (is_shared_since initial o.owner) (and-first (fits_input t (inputs.Shared id initial mutable) o) (fit_inputs t is os) e)) (fit-ids t is os (and-second (fits_input t (inputs.Shared id initial mutable) o) (fit_inputs t is os) e))

pub objects-ids : (t : Transaction) (objects : List Object) → fits t objects ≡ true → map id_of objects ≡ named_ids t
unfolding fits
objects-ids t objects fit = fit-ids t (objects_of t) objects (and-first (fit_inputs t (objects_of t) objects) (pays_gas t objects) (and-first (fit_inputs t (objects_of t) objects && pays_gas t objects) (nat_lt (version_of objects) version_limit) fit))

-- ---- the effects

-- each id is named at most as often as it is touched
pub effects-times : (t : Transaction) (objects : List Object) → fits t objects ≡ true → (y : ObjectId) → times y (effect_ids (execution t objects).effects) ≤ times y (touched_ids t (execution t objects).effects)
unfolding execution
effects-times t objects fit y = go (outcome t (transaction_digest t) objects) refl
  where
    tx : Digest
    tx = transaction_digest t

    named : times y (first_ids (written_places t objects)) ≤ times y (named_ids t)
    named = subst (λ ids. times y (first_ids (written_places t objects)) ≤ times y ids) (objects-ids t objects fit) (places-ids t objects y)

    go : (r : Result Block Failure) → outcome t (transaction_digest t) objects ≡ r → times y (effect_ids (executed_by t (transaction_digest t) objects r).effects) ≤ times y (touched_ids t (executed_by t (transaction_digest t) objects r).effects)
    go (Err failure) h =
        let ids : map (λ (w : Written). w.id) (map written_of (failed_objects t objects)) ≡ first_ids (written_places t objects) = written-ids (failed_objects t objects) ∙ cost-ids t (map (λ (x : Place × Object). same_object (version_of objects) x.1) (written_places t objects)) ∙ same-ids (version_of objects) (written_places t objects) in
        let same = ap (times y) ids in
        let left = times-append y (map (λ (w : Written). w.id) (map written_of (failed_objects t objects))) [] in
        let right = times-append y (named_ids t) [] in
        omega (arith, same, left, right, named)
    go (Ok b) h =
        let places : List Object = filter_map (λ (x : Place × Object). after_block (version_of objects) b x.0 x.1) (written_places t objects) in
        let ids : map (λ (w : Written). w.id) (map written_of (done_objects t (transaction_digest t) objects b)) ≡ map id_of places ++ map id_of (created_objects (transaction_digest t) (version_of objects) b) =
        written-ids (done_objects t (transaction_digest t) objects b) ∙ map-append id_of (with_rest_first t places) (created_objects (transaction_digest t) (version_of objects) b) ∙ ap (λ ids. ids ++ map id_of (created_objects (transaction_digest t) (version_of objects) b)) (rest-ids t places) in
        let same = ap (times y) ids in
        let left = times-append y (map (λ (w : Written). w.id) (map written_of (done_objects t (transaction_digest t) objects b))) (deleted_ids t objects b) in
        let middle = times-append y (map id_of places) (map id_of (created_objects (transaction_digest t) (version_of objects) b)) in
        let right = times-append y (named_ids t) (drawn_ids (transaction_digest t) b.made) in
        let once = places-once t (first_slots t objects) (version_of objects) b (written_places t objects) y (origins t objects) (done-is t (transaction_digest t) objects b h).kept.good in
        let made = created-from (transaction_digest t) (version_of objects) b (numbers_below b.made) y in
        omega (arith, same, left, middle, right, once, made, named)

-- the effects list what is written
pub written-are : (t : Transaction) (objects : List Object) → (execution t objects).effects.written ≡ map written_of (execution t objects).objects
unfolding execution
written-are t objects = go (outcome t (transaction_digest t) objects)
  where
    go : (r : Result Block Failure) → (executed_by t (transaction_digest t) objects r).effects.written ≡ map written_of (executed_by t (transaction_digest t) objects r).objects
    go (Ok b) = refl
    go (Err failure) = refl

pub name_once : (t : Transaction) (objects : List Object) → fits t objects ≡ true → repeats id_eq (touched_ids t (execution t objects).effects) ≡ false → repeats id_eq (effect_ids (execution t objects).effects) ≡ false
name_once t objects fit apart = each-once (effect_ids (execution t objects).effects) (λ y.
    let named = effects-times t objects fit y in
    let once = once-each (touched_ids t (execution t objects).effects) apart y in
    omega (arith, named, once))

pub name_touched : (t : Transaction) (objects : List Object) → fits t objects ≡ true → (id : ObjectId) → has_id (touched_ids t (execution t objects).effects) id ≡ false → has_id (effect_ids (execution t objects).effects) id ≡ false
name_touched t objects fit id apart =
    let named = effects-times t objects fit id in
    let none = none-times id (touched_ids t (execution t objects).effects) apart in
    times-none id (effect_ids (execution t objects).effects) (omega (arith, named, none))
