use Rattle.std.proofs.Common.{◌≡◌, [], length}
use Rattle.exec_plan.specs.Gathering.{gathered_after}
use Rattle.exec_plan.proofs.task.gather.Given as goal

-- what is left, after the objects so far, makes up all
abbrev pub invariant-loop-rest : goal.invariant-loop-rest
invariant-loop-rest l = gathered_after l.objects l.rest l.left ≡ gathered_after [] l.wants l.inputs

abbrev pub decreases-loop-rest : goal.decreases-loop-rest
decreases-loop-rest l = length l.rest
