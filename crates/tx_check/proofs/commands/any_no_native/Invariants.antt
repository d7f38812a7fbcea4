use Rattle.std.proofs.Common.{◌≡◌, drop}
use Rattle.std.specs.List.{list_any}
use Rattle.protocol_spec.specs.Chain.Shape.{is_no_native}
use Rattle.tx_check.proofs.commands.any_no_native.Given as goal

abbrev pub invariant-loop-command : goal.invariant-loop-command
invariant-loop-command l = list_any (is_no_native) (drop l.command-index l.commands) ≡ list_any (is_no_native) l.commands
