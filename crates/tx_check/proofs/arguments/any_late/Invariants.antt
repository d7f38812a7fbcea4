use Rattle.std.proofs.Common.{◌≡◌, drop}
use Rattle.std.specs.List.{list_any}
use Rattle.protocol_spec.specs.Chain.Shape.{is_late}
use Rattle.tx_check.proofs.arguments.any_late.Given as goal

abbrev pub invariant-loop-argument : goal.invariant-loop-argument
invariant-loop-argument l = list_any (is_late l.here) (drop l.argument-index l.arguments) ≡ list_any (is_late l.here) l.arguments
