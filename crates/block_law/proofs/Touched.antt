-- An execution touches the objects of the inputs that it may write, and what it creates, and nothing else.
use Rattle.std.proofs.Common.{inl, inr, refl, ap, subst, sym, ◌∙◌, arith}
use Rattle.std.specs.Prelude.{◌≡◌, ◌⊎◌, ◌<◌, ◌≤◌, max, ℕ, suc, Bool, true, false, cond, List, [], ◌∷◌, map, zip, filter, filter_map, find, fold, option_map, Option, Some, None, Result, Ok, Err}
use Rattle.chain_types.specs.declared.objects.ObjectId.{ObjectId}
use Rattle.chain_types.specs.declared.objects.Object.{Object}
use Rattle.chain_types.specs.declared.transactions.Input.{Input}
use Rattle.chain_types.specs.declared.transactions.Input.TheVariants as inputs
use Rattle.chain_types.specs.declared.transactions.Transaction.{Transaction}
use Rattle.chain_types.specs.Digests.{transaction_digest, is_object, lamport_version}
use Rattle.chain_types.specs.Equal.{id_eq}
use Rattle.protocol_spec.specs.declared.pieces.Item.{Item}
use Rattle.protocol_spec.specs.declared.pieces.Placed.{Placed}
use Rattle.protocol_spec.proofs.ListLemmas.{each_has, has_parts, has_mapped}
use Rattle.protocol_spec.specs.Block.Commands.{piece_of}
use Rattle.protocol_spec.specs.Chain.Words.{Has, numbers_below}
use Rattle.protocol_spec.specs.Chain.Keys.{objects_of, version_of}
use Rattle.protocol_spec.specs.Block.Block.{Place, Block, value_in}
use Rattle.protocol_spec.specs.Block.Execution.{Failure, first_slots, outcome, left_in, object_at, now_in, after_block, is_written, written_inputs, written_places, created_objects, with_rest_first, is_none_left, deleted_id, same_object, less_cost_first, execution, executed_by}
use Rattle.block_law.specs.Names.{drawn_id}
use Rattle.block_law.proofs.Blocks.{done-is}
use Rattle.block_law.proofs.Effects.{IsOrigin, origins, left-id, after-id}
use Rattle.block_law.proofs.Written.{chosen-from, below}
use Rattle.block_law.specs.Orderly.{Step, gave, Makes}

-- ---- elements

-- ---- the places that are written are those of inputs that may be written

record IsOfInput (is : List Input) (os : List Object) (o : Object) : Type 0 where
  of : Input
  named : Has (zip is os) (of, o)
  may_write : is_written of ≡ true

more-inputs : (is : List Input) (os : List Object) (i : Input) (p o : Object) → IsOfInput is os o → IsOfInput (i ∷ is) (p ∷ os) o
more-inputs is os i p o it = record { of = it.of; named = inr it.named; may_write = it.may_write }

first-input : (is : List Input) (os : List Object) (i : Input) (o : Object) (x : Place × Object) (n : Place) → is_written i ≡ true → (n, o) ≡ x → IsOfInput (i ∷ is) (o ∷ os) x.1
first-input is os i o x n w e = record { of = i; named = inl (ap (λ (y : Place × Object). (i, y.1)) e); may_write = w }

input-places : (n : ℕ) (is : List Input) (os : List Object) (x : Place × Object) → Has (written_inputs n is os) x → IsOfInput (filter is_object is) os x.1
input-places n [] os x h = absurd h
input-places n (inputs.Pure bytes ∷ is) os x h = input-places (suc n) is os x h
input-places n (inputs.Owned r ∷ is) [] x h = absurd h
input-places n (inputs.Owned r ∷ is) (o ∷ os) x (inl e) = first-input (filter is_object is) os (inputs.Owned r) o x _ refl e
input-places n (inputs.Owned r ∷ is) (o ∷ os) x (inr h) = more-inputs (filter is_object is) os (inputs.Owned r) o x.1 (input-places (suc n) is os x h)
input-places n (inputs.Immutable r ∷ is) [] x h = absurd h
input-places n (inputs.Immutable r ∷ is) (o ∷ os) x h = more-inputs (filter is_object is) os (inputs.Immutable r) o x.1 (input-places (suc n) is os x h)
input-places n (inputs.Shared id initial mutable ∷ is) [] x h = absurd h
input-places n (inputs.Shared id initial true ∷ is) (o ∷ os) x (inl e) = first-input (filter is_object is) os (inputs.Shared id initial true) o x _ refl e
input-places n (inputs.Shared id initial true ∷ is) (o ∷ os) x (inr h) = more-inputs (filter is_object is) os (inputs.Shared id initial true) o x.1 (input-places (suc n) is os x h)
input-places n (inputs.Shared id initial false ∷ is) (o ∷ os) x h = more-inputs (filter is_object is) os (inputs.Shared id initial false) o x.1 (input-places (suc n) is os x h)

places : (t : Transaction) (objects : List Object) (x : Place × Object) → Has (written_places t objects) x → IsOfInput (objects_of t) objects x.1
places t [] x h = absurd h
places t (coin ∷ os) x (inl e) = first-input (filter is_object t.inputs) os (inputs.Owned t.gas) coin x _ refl e
places t (coin ∷ os) x (inr h) = more-inputs (filter is_object t.inputs) os (inputs.Owned t.gas) coin x.1 (input-places 0 t.inputs os x h)

-- ---- what is touched

-- the object of an input that the step may write
pub record IsReplaced (x : Step) (id : ObjectId) : Type 0 where
  pub of : Input
  pub old : Object
  pub named : Has (zip (objects_of x.tx) x.inputs) (of, old)
  pub may_write : is_written of ≡ true
  pub same : old.id ≡ id

abbrev pub IsTouched : Step → ObjectId → Type 0
IsTouched x id = IsReplaced x id ⊎ Makes x id

replaced : (x : Step) (o : Object) (id : ObjectId) → IsOfInput (objects_of x.tx) x.inputs o → o.id ≡ id → IsReplaced x id
replaced x o id it e = record { of = it.of; old = o; named = it.named; may_write = it.may_write; same = e }

has-rest : (t : Transaction) (os : List Object) (o : Object) → Has (with_rest_first t os) o → (q : Object) × Has os q × (q.id ≡ o.id)
has-rest t [] o h = absurd h
has-rest t (q ∷ os) o (inl e) = (q, inl refl, ap (λ (y : Object). y.id) e)
has-rest t (q ∷ os) o (inr h) = (o, inr h, refl)

has-cost : (t : Transaction) (os : List Object) (o : Object) → Has (less_cost_first t os) o → (q : Object) × Has os q × (q.id ≡ o.id)
has-cost t [] o h = absurd h
has-cost t (q ∷ os) o (inl e) = (q, inl refl, ap (λ (y : Object). y.id) e)
has-cost t (q ∷ os) o (inr h) = (o, inr h, refl)

module _ (x : Step) where
  -- in or from a place that is written
  after-touched : (b : Block) → outcome x.tx (transaction_digest x.tx) x.inputs ≡ Ok b → (o : Object) → Has (filter_map (λ (y : Place × Object). after_block (version_of x.inputs) b y.0 y.1) (written_places x.tx x.inputs)) o → IsReplaced x o.id
  after-touched b e o h =
      let from = chosen-from (λ (y : Place × Object). after_block (version_of x.inputs) b y.0 y.1) (written_places x.tx x.inputs) o h in
      let origin = each_has (IsOrigin (first_slots x.tx x.inputs)) (written_places x.tx x.inputs) from.0 (origins x.tx x.inputs) from.1 in
      replaced x from.0.1 o.id (places x.tx x.inputs from.0 from.1)
      (sym (after-id x.tx (first_slots x.tx x.inputs) (version_of x.inputs) b from.0 o origin (done-is x.tx (transaction_digest x.tx) x.inputs b e).kept.good from.2))

  rest-touched : (b : Block) → outcome x.tx (transaction_digest x.tx) x.inputs ≡ Ok b → (o : Object) → Has (with_rest_first x.tx (filter_map (λ (y : Place × Object). after_block (version_of x.inputs) b y.0 y.1) (written_places x.tx x.inputs))) o → IsReplaced x o.id
  rest-touched b e o h =
      let r = has-rest x.tx (filter_map (λ (y : Place × Object). after_block (version_of x.inputs) b y.0 y.1) (written_places x.tx x.inputs)) o h in
      subst (IsReplaced x) r.2 (after-touched b e r.0 r.1)

  made-by : (b : Block) (o : Object) → Has (created_objects (transaction_digest x.tx) (version_of x.inputs) b) o → (n : ℕ) × (n < b.made) × (drawn_id (transaction_digest x.tx) n ≡ o.id)
  made-by b o h =
      let from = chosen-from (λ n. left_in (version_of x.inputs) b.placed (drawn_id (transaction_digest x.tx) n)) (numbers_below b.made) o h in
      (from.0, below b.made from.0 from.1, sym (left-id (version_of x.inputs) b.placed (drawn_id (transaction_digest x.tx) from.0) o from.2))

  failed-touched : (o : Object) → Has (less_cost_first x.tx (map (λ (y : Place × Object). same_object (version_of x.inputs) y.1) (written_places x.tx x.inputs))) o → IsReplaced x o.id
  failed-touched o h =
      let r = has-cost x.tx (map (λ (y : Place × Object). same_object (version_of x.inputs) y.1) (written_places x.tx x.inputs)) o h in
      let from = has_mapped (λ (y : Place × Object). same_object (version_of x.inputs) y.1) (written_places x.tx x.inputs) r.0 r.1 in
      replaced x from.0.1 o.id (places x.tx x.inputs from.0 from.1) (ap (λ (y : Object). y.id) from.2 ∙ r.2)

  -- it has the id of an input that may be written, or of a created object
  abbrev Touches : Result Block Failure → ObjectId → Type 0
  Touches r id = IsReplaced x id ⊎ ((n : ℕ) × (n < (executed_by x.tx (transaction_digest x.tx) x.inputs r).effects.created) × (drawn_id (transaction_digest x.tx) n ≡ id))

  pub touched-object : (o : Object) → Has (gave x).objects o → IsTouched x o.id
  unfolding execution
  touched-object o h = go (outcome x.tx (transaction_digest x.tx) x.inputs) refl h
    where
      parts : (b : Block) → outcome x.tx (transaction_digest x.tx) x.inputs ≡ Ok b
          → Has (with_rest_first x.tx (filter_map (λ (y : Place × Object). after_block (version_of x.inputs) b y.0 y.1) (written_places x.tx x.inputs))) o ⊎ Has (created_objects (transaction_digest x.tx) (version_of x.inputs) b) o → Touches (Ok b) o.id
      parts b e (inl h) = inl (rest-touched b e o h)
      parts b e (inr h) = inr (made-by b o h)

      go : (r : Result Block Failure) → outcome x.tx (transaction_digest x.tx) x.inputs ≡ r → Has (executed_by x.tx (transaction_digest x.tx) x.inputs r).objects o → Touches r o.id
      go (Ok b) e h = parts b e (has_parts (with_rest_first x.tx (filter_map (λ (y : Place × Object). after_block (version_of x.inputs) b y.0 y.1) (written_places x.tx x.inputs))) (created_objects (transaction_digest x.tx) (version_of x.inputs) b) o h)
      go (Err failure) e h = inl (failed-touched o h)

  pub touched-deleted : (id : ObjectId) → Has (gave x).effects.deleted id → IsTouched x id
  unfolding execution
  touched-deleted id h = go (outcome x.tx (transaction_digest x.tx) x.inputs) h
    where
      which : (b : Bool) (y : Place × Object) → cond b (Some y.1.id) None ≡ Some id → y.1.id ≡ id
      which true y e = cc
      which false y e = absurd (cc)

      go : (r : Result Block Failure) → Has (executed_by x.tx (transaction_digest x.tx) x.inputs r).effects.deleted id → Touches r id
      go (Err failure) h = absurd h
      go (Ok b) h =
          let from = chosen-from (deleted_id (version_of x.inputs) b) (written_places x.tx x.inputs) id h in
          inl (replaced x from.0.1 id (places x.tx x.inputs from.0 from.1) (which (is_none_left (after_block (version_of x.inputs) b from.0.0 from.0.1)) from.0 from.2))

-- ---- what is written has the version of the transaction

left-version : (version : ℕ) (placed : List Placed) (id : ObjectId) (o : Object) → left_in version placed id ≡ Some o → o.version ≡ version
left-version version placed id o e = go (find (λ (p : Placed). id_eq p.item.id id) placed) e
  where
    go : (f : Option Placed) → option_map (λ (p : Placed). object_at version p.owner p.item) f ≡ Some o → o.version ≡ version
    go None e = absurd (cc)
    go (Some p) e = sym (ap (λ (x : Object). x.version) (same e))
      where
        same : Some (object_at version p.owner p.item) ≡ Some o → object_at version p.owner p.item ≡ o
        same e = cc

after-version : (version : ℕ) (b : Block) (p : Place) (old o : Object) → after_block version b p old ≡ Some o → o.version ≡ version
after-version version b p old o e = go (piece_of (value_in p b.slots)) e
  where
    go : (item : Option Item) → now_in version b.placed old item ≡ Some o → o.version ≡ version
    go None e = left-version version b.placed old.id o e
    go (Some item) e = sym (ap (λ (x : Object). x.version) (same e))
      where
        same : Some (object_at version old.owner item) ≡ Some o → object_at version old.owner item ≡ o
        same e = cc

rest-version : (t : Transaction) (os : List Object) (o : Object) → Has (with_rest_first t os) o → (q : Object) × Has os q × (q.version ≡ o.version)
rest-version t [] o h = absurd h
rest-version t (q ∷ os) o (inl e) = (q, inl refl, ap (λ (y : Object). y.version) e)
rest-version t (q ∷ os) o (inr h) = (o, inr h, refl)

cost-version : (t : Transaction) (os : List Object) (o : Object) → Has (less_cost_first t os) o → (q : Object) × Has os q × (q.version ≡ o.version)
cost-version t [] o h = absurd h
cost-version t (q ∷ os) o (inl e) = (q, inl refl, ap (λ (y : Object). y.version) e)
cost-version t (q ∷ os) o (inr h) = (o, inr h, refl)

pub written-version : (x : Step) (o : Object) → Has (gave x).objects o → o.version ≡ version_of x.inputs
unfolding execution
written-version x o h = go (outcome x.tx (transaction_digest x.tx) x.inputs) h
  where
    parts : (b : Block) → Has (with_rest_first x.tx (filter_map (λ (y : Place × Object). after_block (version_of x.inputs) b y.0 y.1) (written_places x.tx x.inputs))) o ⊎ Has (created_objects (transaction_digest x.tx) (version_of x.inputs) b) o → o.version ≡ version_of x.inputs
    parts b (inl h) =
        let r = rest-version x.tx (filter_map (λ (y : Place × Object). after_block (version_of x.inputs) b y.0 y.1) (written_places x.tx x.inputs)) o h in
        let from = chosen-from (λ (y : Place × Object). after_block (version_of x.inputs) b y.0 y.1) (written_places x.tx x.inputs) r.0 r.1 in
        sym r.2 ∙ after-version (version_of x.inputs) b from.0.0 from.0.1 r.0 from.2
    parts b (inr h) =
        let from = chosen-from (λ n. left_in (version_of x.inputs) b.placed (drawn_id (transaction_digest x.tx) n)) (numbers_below b.made) o h in
        left-version (version_of x.inputs) b.placed (drawn_id (transaction_digest x.tx) from.0) o from.2

    go : (r : Result Block Failure) → Has (executed_by x.tx (transaction_digest x.tx) x.inputs r).objects o → o.version ≡ version_of x.inputs
    go (Ok b) h = parts b (has_parts (with_rest_first x.tx (filter_map (λ (y : Place × Object). after_block (version_of x.inputs) b y.0 y.1) (written_places x.tx x.inputs))) (created_objects (transaction_digest x.tx) (version_of x.inputs) b) o h)
    go (Err failure) h =
        let r = cost-version x.tx (map (λ (y : Place × Object). same_object (version_of x.inputs) y.1) (written_places x.tx x.inputs)) o h in
        let from = has_mapped (λ (y : Place × Object). same_object (version_of x.inputs) y.1) (written_places x.tx x.inputs) r.0 r.1 in
        sym r.2 ∙ sym (ap (λ (y : Object). y.version) from.2)

-- it is above the version of each object
max-start : (a : ℕ) (os : List Object) → a ≤ fold max a (map (λ (o : Object). o.version) os)
max-start a [] = omega arith
max-start a (o ∷ os) = let rest = max-start (max a o.version) os in omega (arith, rest)

max-each : (a : ℕ) (os : List Object) (o : Object) → Has os o → o.version ≤ fold max a (map (λ (o : Object). o.version) os)
max-each a [] o h = absurd h
max-each a (p ∷ os) o (inl e) = let rest = max-start (max a p.version) os in subst (λ (q : Object). q.version ≤ fold max a (map (λ (o : Object). o.version) (p ∷ os))) e (omega (arith, rest))
max-each a (p ∷ os) o (inr h) = max-each (max a p.version) os o h

pub above : (os : List Object) (o : Object) → Has os o → o.version < version_of os
unfolding lamport_version
above os o h = let e = max-each 0 os o h in omega (arith, e)
