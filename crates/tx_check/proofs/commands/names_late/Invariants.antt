use Rattle.std.proofs.Common.{◌≡◌, drop}
use Rattle.std.specs.List.{list_any, enumerate_from}
use Rattle.protocol_spec.specs.Chain.Shape.{names_late}
use Rattle.tx_check.proofs.commands.names_late.Given as goal

abbrev pub invariant-loop-command : goal.invariant-loop-command
invariant-loop-command l = record { place : l.here ≡ l.command-index; rest : list_any names_late (enumerate_from l.here (drop l.command-index l.commands)) ≡ list_any names_late (enumerate_from 0 l.commands) }
