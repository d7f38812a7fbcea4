-- What a store stands for, and the executions that it can take. Source: Sui Lutris.
use Rattle.std.specs.Prelude.{Bool, List, [], ◌∷◌, ◌++◌, map, Some}
use Rattle.chain_types.specs.declared.objects.Object.{Object}
use Rattle.chain_types.specs.declared.objects.ObjectKey.{ObjectKey}
use Rattle.chain_types.specs.declared.objects.Producer.{Producer}
use Rattle.effects_core.specs.declared.effects.Effects.{Effects}
use Rattle.protocol_spec.specs.Chain.Keys.{object_key}
use Rattle.protocol_spec.specs.Member.Versions.{Execution, Version, live_list, versions}
use Rattle.protocol_spec.specs.Member.Rounds.{Wanted, writes_new}

-- the objects with which the epoch opened, and the transactions executed since, in order
pub record Stored : Type 0 where
  pub opening : List Object
  pub executed : List Execution

-- all versions that are held
abbrev pub held_in : Stored → List Version
held_in s = versions s.opening s.executed

-- each of these objects is a version that is not held, and none comes twice
abbrev pub are_new : List Version → List Object → Bool
are_new held objects = writes_new held (map object_key objects)

-- an execution from its effects, the objects that it wrote and the versions that it consumed
abbrev pub executed_as : Effects → List Object → List ObjectKey → Execution
executed_as effects objects consumed = record {
  digest = effects.tx;
  consumed = consumed;
  gave = record { effects = effects; objects = objects };
}

-- one more transaction was executed
abbrev pub with_execution : Stored → Execution → Stored
with_execution s x = record s { executed = s.executed ++ x ∷ [] }

-- a version of this key, made by this producer
abbrev pub wanted_of : ObjectKey → Producer → Wanted
wanted_of key producer = record { key = key; producer = Some producer }

-- the store of the next epoch: it opens with the live objects
abbrev pub next_epoch : Stored → Stored
next_epoch s = record { opening = live_list s.opening s.executed; executed = [] }
