use Rattle.std.proofs.Common.{◌≡◌, [], length}
use Rattle.exec_plan.specs.Steps.{left_after}
use Rattle.exec_plan.proofs.leaving.left_among.Given as goal

-- what is passed later, after those left so far, makes up all that are left
abbrev pub invariant-loop-rest : goal.invariant-loop-rest
invariant-loop-rest l = left_after l.store l.admission.admission l.held l.left l.rest ≡ left_after l.store l.admission.admission l.held [] l.places

abbrev pub decreases-loop-rest : goal.decreases-loop-rest
decreases-loop-rest l = length l.rest
