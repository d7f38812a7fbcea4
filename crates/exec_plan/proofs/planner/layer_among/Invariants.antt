use Rattle.std.proofs.Common.{◌≡◌, ◌++◌, length}
use Rattle.exec_plan.specs.Ahead.{layer_places}
use Rattle.exec_plan.proofs.planner.layer_among.Given as goal

-- what was passed, and then the rest
abbrev pub invariant-loop-rest : goal.invariant-loop-rest
invariant-loop-rest l = l.layer ++ layer_places l.past l.admission.admission l.held l.rest ≡ layer_places l.past l.admission.admission l.held l.places

abbrev pub decreases-loop-rest : goal.decreases-loop-rest
decreases-loop-rest l = length l.rest
