use Rattle.std.proofs.Common.{◌≡◌, ◌+◌, drop}
use Rattle.world_spec.specs.Names.{draws}
use Rattle.world_lines.proofs.adding.draws.Given as goal

-- the commands that are left draw what is missing
abbrev pub invariant-loop-command : goal.invariant-loop-command
invariant-loop-command l = l.count + draws (drop l.command-index l.commands) ≡ draws l.commands
