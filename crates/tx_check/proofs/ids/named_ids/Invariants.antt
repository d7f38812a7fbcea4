use Rattle.std.proofs.Common.{◌≡◌, ◌∷◌, take}
use Rattle.std.specs.Prelude.{filter_map}
use Rattle.protocol_spec.specs.Chain.Keys.{named_id}
use Rattle.tx_check.proofs.ids.named_ids.Given as goal

abbrev pub invariant-loop-input : goal.invariant-loop-input
invariant-loop-input l = l.ids ≡ l.tx.gas.id ∷ filter_map named_id (take l.input-index l.tx.inputs)
