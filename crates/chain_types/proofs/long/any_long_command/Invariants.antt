use Rattle.std.proofs.Common.{◌≡◌, drop}
use Rattle.std.specs.List.{list_any}
use Rattle.chain_types.specs.Long.{is_long_command}
use Rattle.chain_types.proofs.long.any_long_command.Given as goal

abbrev pub invariant-loop-command : goal.invariant-loop-command
invariant-loop-command l = list_any (is_long_command l.most) (drop l.command-index l.commands) ≡ list_any (is_long_command l.most) l.commands
