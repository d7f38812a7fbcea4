use Rattle.std.proofs.Common.{◌≡◌, drop}
use Rattle.std.specs.List.{list_any}
use Rattle.protocol_spec.specs.Chain.Shape.{is_idle}
use Rattle.tx_check.proofs.commands.any_idle.Given as goal

abbrev pub invariant-loop-command : goal.invariant-loop-command
invariant-loop-command l = list_any (is_idle) (drop l.command-index l.commands) ≡ list_any (is_idle) l.commands
