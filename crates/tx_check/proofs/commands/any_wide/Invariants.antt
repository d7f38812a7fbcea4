use Rattle.std.proofs.Common.{◌≡◌, length, drop}
use Rattle.std.specs.List.{list_any}
use Rattle.std.specs.Prelude.{nat_lt}
use Rattle.protocol_spec.specs.Chain.Shape.{arguments_of}
use Rattle.tx_check.proofs.commands.any_wide.Given as goal

abbrev pub invariant-loop-command : goal.invariant-loop-command
invariant-loop-command l = list_any (λ c. nat_lt 512 (length (arguments_of c))) (drop l.command-index l.commands) ≡ list_any (λ c. nat_lt 512 (length (arguments_of c))) l.commands
