-- What executions leave, in whatever order they were, against what one thread leaves.
use Rattle.std.specs.Prelude.{◌≡◌, List, map}
use Rattle.std.specs.FinMap.{get, values}
use Rattle.chain_types.specs.declared.objects.ObjectId.{ObjectId}
use Rattle.chain_types.specs.declared.objects.Object.{Object}
use Rattle.protocol_spec.specs.Chain.Words.{Has}
use Rattle.protocol_spec.specs.Member.Versions.{Execution, live, live_list}
use Rattle.protocol_spec.specs.Member.Sequential.{map_of, fold_all}
use Rattle.block_law.specs.Orderly.{Step, gave, tx_of, AreOrderly, AreApart}

-- the executions gave what the steps gave, all of them and nothing else, in any order
pub record IsOfSteps (steps : List Step) (executed : List Execution) : Type 0 where
  pub whole : (x : Step) → Has steps x → (e : Execution) × Has executed e × (e.gave ≡ gave x)
  pub only : (e : Execution) → Has executed e → (x : Step) × Has steps x × (e.gave ≡ gave x)

-- the live object of each id is what one thread's map has
abbrev pub LiveIsMap : Type 0
LiveIsMap = (opening : List Object) (steps : List Step) (executed : List Execution) → AreApart opening → AreOrderly opening steps → IsOfSteps steps executed
    → (id : ObjectId) → live opening executed id ≡ get (fold_all (map_of opening) (map tx_of steps)).map id

-- the list of live objects is that of one thread's map
abbrev pub LiveListIsMap : Type 0
LiveListIsMap = (opening : List Object) (steps : List Step) (executed : List Execution) → AreApart opening → AreOrderly opening steps → IsOfSteps steps executed
    → live_list opening executed ≡ values (fold_all (map_of opening) (map tx_of steps)).map
