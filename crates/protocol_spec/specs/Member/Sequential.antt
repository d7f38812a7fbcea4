-- One thread's execution of transactions in order, over a map from id to object: the meaning of a list of
-- checkpointed transactions. Source: Sui Lutris.
use Rattle.std.specs.Prelude.{ℕ, ◌==◌, List, [], ◌∷◌, ◌++◌, map, fold, Option, Some, None, if◌then◌else◌}
use Rattle.std.specs.FinMap.{FinMap, empty, get, insert, remove}
use Rattle.chain_types.specs.declared.objects.ObjectId.{ObjectId}
use Rattle.chain_types.specs.declared.objects.Object.{Object}
use Rattle.chain_types.specs.declared.transactions.Input.{Input}
use Rattle.chain_types.specs.declared.transactions.Input.TheVariants as inputs
use Rattle.chain_types.specs.declared.transactions.Transaction.{Transaction}
use Rattle.effects_core.specs.declared.effects.Effects.{Effects}
use Rattle.protocol_spec.specs.declared.pieces.Executed.{Executed}
use Rattle.protocol_spec.specs.Chain.Words.{all_some}
use Rattle.protocol_spec.specs.Chain.Keys.{objects_of, fits}
use Rattle.protocol_spec.specs.Block.Execution.{execution}
use Rattle.protocol_spec.specs.Member.Versions.{id_cmp}

abbrev pub Objects : Type 0
Objects = FinMap id_cmp Object

abbrev pub with_object : Objects → Object → Objects
with_object m o = insert m o.id o

abbrev pub without_id : Objects → ObjectId → Objects
without_id m id = remove m id

-- the map of these objects
unfoldable pub map_of : List Object → Objects
map_of objects = fold with_object empty objects

abbrev pub at_version : ℕ → Option Object → Option Object
at_version version None = None
at_version version (Some o) = if o.version == version then Some o else None

-- the object that an input names, with the named version unless the input is shared
abbrev pub named_in : Objects → Input → Option Object
named_in m (inputs.Pure bytes) = None
named_in m (inputs.Owned r) = at_version r.version (get m r.id)
named_in m (inputs.Immutable r) = at_version r.version (get m r.id)
named_in m (inputs.Shared id initial mutable) = get m id

abbrev pub read_by : Objects → Transaction → Option (List Object)
read_by m t = all_some (map (named_in m) (objects_of t))

-- written objects replace those in the map, and deleted ids leave it
abbrev pub map_after : Objects → Executed → Objects
map_after m x = fold without_id (fold with_object m x.objects) x.effects.deleted

-- the map, and the effects of each transaction, none if it had none
pub record Folded : Type 0 where
  pub map : Objects
  pub effects : List (Option Effects)

abbrev pub without_effects : Folded → Folded
without_effects f = record f { effects = f.effects ++ None ∷ [] }

abbrev pub with_execution : Folded → Executed → Folded
with_execution f x = record { map = map_after f.map x; effects = f.effects ++ Some x.effects ∷ [] }

abbrev pub executed_on : Folded → Transaction → Option (List Object) → Folded
executed_on f t None = without_effects f
executed_on f t (Some objects) = if fits t objects then with_execution f (execution t objects) else without_effects f

-- one transaction
unfoldable pub fold_one : Folded → Transaction → Folded
fold_one f t = executed_on f t (read_by f.map t)

-- all of them, in order, on these objects
unfoldable pub fold_all : Objects → List Transaction → Folded
fold_all m txs = fold fold_one (record { map = m; effects = [] }) txs
