-- What an execution makes of shared objects. Source: Sui documentation (object ownership: an object is shared by the
-- transaction that creates it, and stays shared).
use Rattle.std.specs.Prelude.{◌≡◌, ◌⊎◌, ◌<◌, ℕ, true, false, List, zip, Option, Some, None}
use Rattle.chain_types.specs.declared.objects.ObjectId.{ObjectId}
use Rattle.chain_types.specs.declared.objects.Object.{Object}
use Rattle.chain_types.specs.declared.objects.Owner.{Owner}
use Rattle.chain_types.specs.declared.objects.Owner.TheVariants as owner
use Rattle.chain_types.specs.declared.transactions.Input.{Input}
use Rattle.chain_types.specs.declared.transactions.Input.TheVariants as inputs
use Rattle.chain_types.specs.declared.transactions.Transaction.{Transaction}
use Rattle.chain_types.specs.Digests.{transaction_digest}
use Rattle.chain_types.specs.Equal.{id_eq}
use Rattle.protocol_spec.specs.Chain.Words.{Has, repeats}
use Rattle.protocol_spec.specs.Chain.Keys.{objects_of, version_of, fits}
use Rattle.protocol_spec.specs.Block.Execution.{execution}
use Rattle.block_law.specs.Names.{drawn_id, touched_ids}

-- the version since which an object is shared, none if it is not
abbrev pub shared_since : Owner → Option ℕ
shared_since (owner.Address a) = None
shared_since (owner.Shared initial) = Some initial
shared_since owner.Immutable = None

-- among these objects is this one, at another version, with its id and its owner
pub record IsWrittenAgain (objects : List Object) (version : ℕ) (o : Object) : Type 0 where
  pub now : Object
  pub written : Has objects now
  pub id : now.id ≡ o.id
  pub version_is : now.version ≡ version
  pub owner_is : now.owner ≡ o.owner

-- the object of a mutable shared input is written in success and in failure, at the version of the transaction: it
-- keeps its id and its owner, and is never deleted
abbrev pub SharedInputsAreWritten : Type 0
SharedInputsAreWritten =
    (t : Transaction) (objects : List Object) (id : ObjectId) (initial : ℕ) (o : Object) → Has (zip (objects_of t) objects) (inputs.Shared id initial true, o) →
    IsWrittenAgain (execution t objects).objects (version_of objects) o

-- a written object that an input names; it is shared since the same version as before, or was not shared and is not
pub record IsAsNamed (t : Transaction) (objects : List Object) (p : Object) : Type 0 where
  pub of : Input
  pub before : Object
  pub named : Has (zip (objects_of t) objects) (of, before)
  pub id : before.id ≡ p.id
  pub share : shared_since before.owner ≡ shared_since p.owner

-- the owner is shared since this version, or not shared at all
abbrev pub IsSharedFrom : ℕ → Owner → Type 0
IsSharedFrom version (owner.Address a) = Unit {0}
IsSharedFrom version (owner.Shared initial) = initial ≡ version
IsSharedFrom version owner.Immutable = Unit {0}

-- a written object with an id that the transaction drew; if it is shared, it is since the version of the transaction
pub record IsNew (t : Transaction) (objects : List Object) (p : Object) : Type 0 where
  pub number : ℕ
  pub drew : number < (execution t objects).effects.created
  pub id : drawn_id (transaction_digest t) number ≡ p.id
  pub share : IsSharedFrom (version_of objects) p.owner

-- each written object is one that an input names (`IsAsNamed`) or a new one (`IsNew`), if all ids that the transaction
-- names or draws are apart
abbrev pub WritesStayShared : Type 0
WritesStayShared =
    (t : Transaction) (objects : List Object) → fits t objects ≡ true → repeats id_eq (touched_ids t (execution t objects).effects) ≡ false →
    (p : Object) → Has (execution t objects).objects p → IsAsNamed t objects p ⊎ IsNew t objects p
