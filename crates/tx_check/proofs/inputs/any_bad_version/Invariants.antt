use Rattle.std.proofs.Common.{◌≡◌, drop}
use Rattle.std.specs.List.{list_any}
use Rattle.protocol_spec.specs.Chain.Shape.{names_bad_version}
use Rattle.tx_check.proofs.inputs.any_bad_version.Given as goal

abbrev pub invariant-loop-input : goal.invariant-loop-input
invariant-loop-input l = list_any (names_bad_version) (drop l.input-index l.inputs) ≡ list_any (names_bad_version) l.inputs
