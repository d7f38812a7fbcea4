use Rattle.std.proofs.Common.{length}
use Rattle.exec_plan.specs.Waits.{IsFiled}
use Rattle.exec_plan.proofs.waiting.DependencyIndex.file_each.Given as goal

-- the places that are left are still to be filed
abbrev pub invariant-loop-rest : goal.invariant-loop-rest
invariant-loop-rest l = IsFiled l.past l.admission.admission l.rest l.held l.self

abbrev pub decreases-loop-rest : goal.decreases-loop-rest
decreases-loop-rest l = length l.rest
