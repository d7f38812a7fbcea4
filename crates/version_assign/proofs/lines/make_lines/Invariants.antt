use Rattle.std.proofs.Common.{length}
use Rattle.version_assign.proofs.Lining.{IsMade}
use Rattle.version_assign.proofs.lines.make_lines.Given as goal

-- what is known stays; with places for those that are left, all have places
abbrev pub invariant-loop-rest : goal.invariant-loop-rest
invariant-loop-rest l = IsMade l.fn.lines.entries l.lines.entries l.rest l.assigned

abbrev pub decreases-loop-rest : goal.decreases-loop-rest
decreases-loop-rest l = length l.rest
