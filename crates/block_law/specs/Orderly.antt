-- Steps of a chain: transactions with the objects on which they were executed, in an order in which each object
-- comes from the opening objects or from an earlier step.
use Rattle.std.specs.Prelude.{◌≡◌, ◌⊎◌, ◌<◌, ℕ, true, false, List, [], ◌∷◌, ◌++◌, map, zip, filter_map, Option, Some}
use Rattle.chain_types.specs.declared.objects.ObjectId.{ObjectId}
use Rattle.chain_types.specs.declared.objects.ObjectKey.{ObjectKey}
use Rattle.chain_types.specs.declared.objects.Object.{Object}
use Rattle.chain_types.specs.declared.transactions.Input.{Input}
use Rattle.chain_types.specs.declared.transactions.Input.TheVariants as inputs
use Rattle.chain_types.specs.declared.transactions.Transaction.{Transaction}
use Rattle.effects_core.specs.declared.effects.Effects.{Effects}
use Rattle.protocol_spec.specs.declared.pieces.Executed.{Executed}
use Rattle.chain_types.specs.Equal.{id_eq}
use Rattle.chain_types.specs.Digests.{transaction_digest, consumed_keys}
use Rattle.protocol_spec.specs.Chain.Words.{Has, Each, Along, repeats}
use Rattle.protocol_spec.specs.Chain.Tests.{has_id}
use Rattle.protocol_spec.specs.Chain.Keys.{objects_of, mutable_id, fits}
use Rattle.protocol_spec.specs.Block.Execution.{execution}
use Rattle.protocol_spec.specs.Member.Sequential.{map_of, read_by, fold_all}
use Rattle.block_law.specs.Names.{drawn_id, touched_ids}

-- a transaction, and the objects on which it was executed
pub record Step : Type 0 where
  pub tx : Transaction
  pub inputs : List Object

abbrev pub gave : Step → Executed
gave x = execution x.tx x.inputs

abbrev pub tx_of : Step → Transaction
tx_of x = x.tx

abbrev pub id_of : Object → ObjectId
id_of o = o.id

-- the step creates this id
abbrev pub Makes : Step → ObjectId → Type 0
Makes x id = (n : ℕ) × (n < (gave x).effects.created) × (drawn_id (transaction_digest x.tx) n ≡ id)

abbrev pub IsMadeIn : List Step → ObjectId → Type 0
IsMadeIn before id = (y : Step) × Has before y × Makes y id

abbrev pub IsOpening : List Object → ObjectId → Type 0
IsOpening opening id = (o : Object) × Has opening o × (o.id ≡ id)

-- the id of an opening object, or created by an earlier step
abbrev pub IsKnown : List Object → List Step → ObjectId → Type 0
IsKnown opening before id = IsOpening opening id ⊎ IsMadeIn before id

-- the step may not write this shared object
abbrev pub MutatesNot : ObjectId → Step → Type 0
MutatesNot id y = has_id (filter_map mutable_id y.tx.inputs) id ≡ false

-- if the input is shared, none of these steps writes its object
abbrev pub IsLeftAlone : Input → List Step → Type 0
IsLeftAlone (inputs.Pure bytes) between = Unit {0}
IsLeftAlone (inputs.Owned r) between = Unit {0}
IsLeftAlone (inputs.Immutable r) between = Unit {0}
IsLeftAlone (inputs.Shared id initial mutable) between = Each (MutatesNot id) between

-- the object is an opening object, which no step before wrote if it is shared
pub record IsOpened (opening : List Object) (before : List Step) (i : Input) (o : Object) : Type 0 where
  pub opened : Has opening o
  pub alone : IsLeftAlone i before

-- the object was written by an earlier step, and by no step after that one if it is shared
pub record IsWritten (before : List Step) (i : Input) (o : Object) : Type 0 where
  pub front : List Step
  pub writer : Step
  pub back : List Step
  pub split : before ≡ front ++ (writer ∷ back)
  pub written : Has (gave writer).objects o
  pub alone : IsLeftAlone i back

-- where an object comes from: the opening objects, or an earlier step
abbrev pub IsSource : List Object → List Step → Input → Object → Type 0
IsSource opening before i o = IsOpened opening before i o ⊎ IsWritten before i o

-- A step after these: its objects fit it and come from somewhere, no earlier step consumes a version that it
-- consumes, and the ids that it draws are new, and are apart from each other and from those that it names.
pub record IsOrderly (opening : List Object) (before : List Step) (x : Step) : Type 0 where
  pub fit : fits x.tx x.inputs ≡ true
  pub sources : (i : Input) (o : Object) → Has (zip (objects_of x.tx) x.inputs) (i, o) → IsSource opening before i o
  pub apart : (y : Step) → Has before y → (key : ObjectKey) → Has (consumed_keys y.tx) key → Has (consumed_keys x.tx) key → ⊥
  pub fresh : (id : ObjectId) → Makes x id → IsKnown opening before id → ⊥
  pub once : repeats id_eq (touched_ids x.tx (gave x).effects) ≡ false

abbrev pub AreOrderly : List Object → List Step → Type 0
AreOrderly opening steps = Along (IsOrderly opening) [] steps

-- no two of these objects have one id
abbrev pub AreApart : List Object → Type 0
AreApart objects = repeats id_eq (map id_of objects) ≡ false

-- one thread after these transactions reads this step's objects
abbrev pub ReadsSame : List Object → List Step → Step → Type 0
ReadsSame opening before x = read_by (fold_all (map_of opening) (map tx_of before)).map x.tx ≡ Some x.inputs

abbrev pub effects_in : Step → Option Effects
effects_in x = Some (gave x).effects

-- one thread that goes over orderly steps reads at each step exactly that step's objects, so that it gives the
-- step's effects
pub record IsOneThread (opening : List Object) (steps : List Step) : Type 0 where
  pub reads : Along (ReadsSame opening) [] steps
  pub effects : (fold_all (map_of opening) (map tx_of steps)).effects ≡ map effects_in steps

abbrev pub ChainReads : Type 0
ChainReads = (opening : List Object) (steps : List Step) → AreApart opening → AreOrderly opening steps → IsOneThread opening steps
