-- What an execution writes holds amounts, if what it reads does.
use Rattle.std.proofs.Common.{refl, arith}
use Rattle.std.specs.Prelude.{◌≡◌, ◌<◌, ◌+◌, ◌-◌, ℕ, suc, min, Bool, true, false, cond, List, [], ◌∷◌, map, find, filter_map, option_map, Option, Some, None, Result, Ok, Err}
use Rattle.std.specs.List.{cons_option}
use Rattle.chain_types.specs.declared.objects.ObjectId.{ObjectId}
use Rattle.digest_core.specs.declared.Digest.{Digest}
use Rattle.digest_core.specs.Tagged.{created_id_of}
use Rattle.chain_types.specs.declared.objects.Object.{Object}
use Rattle.chain_types.specs.declared.transactions.Input.{Input}
use Rattle.chain_types.specs.declared.transactions.Input.TheVariants as inputs
use Rattle.chain_types.specs.declared.transactions.Transaction.{Transaction}
use Rattle.chain_types.specs.Equal.{id_eq}
use Rattle.chain_types.specs.Digests.{transaction_digest}
use Rattle.protocol_spec.specs.declared.pieces.Placed.{Placed}
use Rattle.protocol_spec.proofs.ListLemmas.{each_join}
use Rattle.protocol_spec.specs.Chain.Words.{Each, numbers_below}
use Rattle.protocol_spec.specs.Chain.Keys.{version_of}
use Rattle.protocol_spec.specs.Chain.Shape.{cost}
use Rattle.protocol_spec.specs.Block.Natives.{amount_limit, amount_of}
use Rattle.protocol_spec.specs.Block.Block.{Place, Value, pure, object, vector, Block, value_in}
use Rattle.protocol_spec.specs.Block.Commands.{piece_of}
use Rattle.protocol_spec.specs.Block.Execution.{Failure, outcome, object_at, left_in, now_in, after_block, written_inputs, written_places, created_objects, with_rest_first, same_object, less_cost_first, failed_objects, done_objects, execution, executed_by}
use Rattle.block_law.proofs.Slots.{value-every}
use Rattle.headline_law.specs.Amounts.{HoldsAmount, IsAmount, HasBytes}
use Rattle.headline_law.proofs.Low.{with-low, less-low, bytes-low}
use Rattle.headline_law.proofs.Natives.{LowPlaced}
use Rattle.headline_law.proofs.Commands.{Lying, IsLow, LowObject, LowInput, ends-low}

module _ (all : Bool) where
  -- ---- what may be written

  inputs-low : (n : ℕ) (is : List Input) (os : List Object) → Each (LowObject all) os → Each (λ (x : Place × Object). LowObject all x.1) (written_inputs n is os)
  inputs-low n [] os each = tt
  inputs-low n (inputs.Pure bytes ∷ is) os each = inputs-low (suc n) is os each
  inputs-low n (inputs.Owned r ∷ is) [] each = tt
  inputs-low n (inputs.Owned r ∷ is) (o ∷ os) each = (each.0, inputs-low (suc n) is os each.1)
  inputs-low n (inputs.Immutable r ∷ is) [] each = tt
  inputs-low n (inputs.Immutable r ∷ is) (o ∷ os) each = inputs-low (suc n) is os each.1
  inputs-low n (inputs.Shared id initial mutable ∷ is) [] each = tt
  inputs-low n (inputs.Shared id initial true ∷ is) (o ∷ os) each = (each.0, inputs-low (suc n) is os each.1)
  inputs-low n (inputs.Shared id initial false ∷ is) (o ∷ os) each = inputs-low (suc n) is os each.1

  places-low : (t : Transaction) (objects : List Object) → Each (LowObject all) objects → Each (λ (x : Place × Object). LowObject all x.1) (written_places t objects)
  places-low t [] each = tt
  places-low t (coin ∷ os) each = (each.0, inputs-low 0 t.inputs os each.1)

  -- ---- after a block that succeeded

  abbrev LowFound : Option Object → Type 0
  LowFound None = Unit {0}
  LowFound (Some o) = LowObject all o

  left-low : (version : ℕ) (placed : List Placed) (id : ObjectId) → Each (LowPlaced all) placed → LowFound (left_in version placed id)
  left-low version [] id each = tt
  left-low version (p ∷ placed) id each = go (id_eq p.item.id id) (left-low version placed id each.1)
    where
      go : (b : Bool) → LowFound (left_in version placed id) → LowFound (option_map (λ (q : Placed). object_at version q.owner q.item) (cond b (Some p) (find (λ (q : Placed). id_eq q.item.id id) placed)))
      go true rest = each.0
      go false rest = rest

  after-low : (version : ℕ) (b : Block) (p : Place) (o : Object) → IsLow all b → LowFound (after_block version b p o)
  after-low version b p o low = go (value_in p b.slots) refl
    where
      go : (v : Option Value) → value_in p b.slots ≡ v → LowFound (now_in version b.placed o (piece_of v))
      go None h = left-low version b.placed o.id low.placed
      go (Some (pure bytes)) h = left-low version b.placed o.id low.placed
      go (Some (object i)) h = value-every (Lying all) p (object i) b.slots low.slots h
      go (Some (vector k is)) h = left-low version b.placed o.id low.placed

  chosen-low : {A : Type 0} (f : A → Option Object) (xs : List A) → ((x : A) → LowFound (f x)) → Each (LowObject all) (filter_map f xs)
  chosen-low f [] low = tt
  chosen-low f (x ∷ xs) low = go (f x) (low x) (chosen-low f xs low)
    where
      go : (o : Option Object) → LowFound o → Each (LowObject all) (filter_map f xs) → Each (LowObject all) (cons_option o (filter_map f xs))
      go None here rest = rest
      go (Some o) here rest = (here, rest)

  -- the rest of the budget goes back, up to the greatest amount
  rest-low : (t : Transaction) (os : List Object) → Each (LowObject all) os → Each (LowObject all) (with_rest_first t os)
  rest-low t [] each = tt
  rest-low t (o ∷ os) each = (with-low all (min (amount_of o.content + (t.budget - cost t)) (amount_limit - 1)) o.content (least (amount_of o.content + (t.budget - cost t))), each.1)
    where
      least : (n : ℕ) → min n (amount_limit - 1) < amount_limit
      least n = omega arith

  done-low : (t : Transaction) (tx : Digest) (objects : List Object) (b : Block) → IsLow all b → Each (LowObject all) (done_objects t tx objects b)
  done-low t tx objects b low = each_join (LowObject all)
      (with_rest_first t (filter_map (λ (x : Place × Object). after_block (version_of objects) b x.0 x.1) (written_places t objects))) (created_objects tx (version_of objects) b)
      (rest-low t (filter_map (λ (x : Place × Object). after_block (version_of objects) b x.0 x.1) (written_places t objects))
      (chosen-low (λ (x : Place × Object). after_block (version_of objects) b x.0 x.1) (written_places t objects) (λ x. after-low (version_of objects) b x.0 x.1 low)))
      (chosen-low (λ (n : ℕ). left_in (version_of objects) b.placed (record { 0 = created_id_of tx n })) (numbers_below b.made) (λ n. left-low (version_of objects) b.placed (record { 0 = created_id_of tx n }) low.placed))

  -- ---- after one that failed

  same-low : (version : ℕ) (xs : List (Place × Object)) → Each (λ (x : Place × Object). LowObject all x.1) xs → Each (LowObject all) (map (λ (x : Place × Object). same_object version x.1) xs)
  same-low version [] each = tt
  same-low version (x ∷ xs) each = (each.0, same-low version xs each.1)

  cost-low : (t : Transaction) (os : List Object) → Each (LowObject all) os → Each (LowObject all) (less_cost_first t os)
  cost-low t [] each = tt
  cost-low t (o ∷ os) each = (less-low all (cost t) o.content each.0, each.1)

  failed-low : (t : Transaction) (objects : List Object) → Each (LowObject all) objects → Each (LowObject all) (failed_objects t objects)
  failed-low t objects each = cost-low t (map (λ (x : Place × Object). same_object (version_of objects) x.1) (written_places t objects)) (same-low (version_of objects) (written_places t objects) (places-low t objects each))

  execution-low : (t : Transaction) (objects : List Object) → Each (LowInput all) t.inputs → Each (LowObject all) objects → Each (LowObject all) (execution t objects).objects
  unfolding execution
  execution-low t objects ins each = go (outcome t (transaction_digest t) objects) refl
    where
      go : (r : Result Block Failure) → outcome t (transaction_digest t) objects ≡ r → Each (LowObject all) (executed_by t (transaction_digest t) objects r).objects
      go (Ok b) e = done-low t (transaction_digest t) objects b (ends-low all t (transaction_digest t) objects b ins each e)
      go (Err failure) e = failed-low t objects each

-- ---- the laws

any-inputs : (is : List Input) → Each (LowInput false) is
any-inputs [] = tt
any-inputs (inputs.Pure bytes ∷ is) = (omega arith, any-inputs is)
any-inputs (inputs.Owned r ∷ is) = (tt, any-inputs is)
any-inputs (inputs.Immutable r ∷ is) = (tt, any-inputs is)
any-inputs (inputs.Shared id initial mutable ∷ is) = (tt, any-inputs is)

byte-inputs : (is : List Input) → Each HasBytes is → Each (LowInput true) is
byte-inputs [] each = tt
byte-inputs (inputs.Pure bytes ∷ is) each = (bytes-low bytes each.0, byte-inputs is each.1)
byte-inputs (inputs.Owned r ∷ is) each = (tt, byte-inputs is each.1)
byte-inputs (inputs.Immutable r ∷ is) each = (tt, byte-inputs is each.1)
byte-inputs (inputs.Shared id initial mutable ∷ is) each = (tt, byte-inputs is each.1)

pub money-stays : (t : Transaction) (objects : List Object) → Each HoldsAmount objects → Each HoldsAmount (execution t objects).objects
money-stays t objects each = execution-low false t objects (any-inputs t.inputs) each

pub amounts-stay : (t : Transaction) (objects : List Object) → Each HasBytes t.inputs → Each IsAmount objects → Each IsAmount (execution t objects).objects
amounts-stay t objects ins each = execution-low true t objects (byte-inputs t.inputs ins) each
