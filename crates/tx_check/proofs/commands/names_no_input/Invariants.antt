use Rattle.std.proofs.Common.{◌≡◌, drop}
use Rattle.std.specs.List.{list_any}
use Rattle.protocol_spec.specs.Chain.Shape.{arguments_of, is_no_input}
use Rattle.tx_check.proofs.commands.names_no_input.Given as goal

abbrev pub invariant-loop-command : goal.invariant-loop-command
invariant-loop-command l = list_any (λ c. list_any (is_no_input l.tx) (arguments_of c)) (drop l.command-index l.commands) ≡ list_any (λ c. list_any (is_no_input l.tx) (arguments_of c)) l.commands
