use Rattle.std.proofs.Common.{length}
use Rattle.version_assign.specs.Changes.{ChangesOn}
use Rattle.version_assign.proofs.changes.change_all.Given as goal

abbrev pub invariant-loop-rest : goal.invariant-loop-rest
invariant-loop-rest l = ChangesOn l.fn.opening.entries l.opening.entries l.changes l.rest

abbrev pub decreases-loop-rest : goal.decreases-loop-rest
decreases-loop-rest l = length l.rest
