use Rattle.std.proofs.Common.{◌≡◌, drop}
use Rattle.std.specs.List.{list_any}
use Rattle.tx_check.specs.Bulk.{is_bulky_command}
use Rattle.tx_check.proofs.length.any_bulky_command.Given as goal

abbrev pub invariant-loop-command : goal.invariant-loop-command
invariant-loop-command l = list_any is_bulky_command (drop l.command-index l.commands) ≡ list_any is_bulky_command l.commands
