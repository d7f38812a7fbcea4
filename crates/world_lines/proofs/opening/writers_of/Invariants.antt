use Rattle.std.proofs.Common.{◌≡◌, length}
use Rattle.world_spec.specs.Setting.{writers_of}
use Rattle.world_lines.proofs.opening.writers_of.Given as goal

-- what is left gives what all give
abbrev pub invariant-loop-rest : goal.invariant-loop-rest
invariant-loop-rest l = writers_of l.rest ≡ writers_of l.setup

abbrev pub decreases-loop-rest : goal.decreases-loop-rest
decreases-loop-rest l = length l.rest
