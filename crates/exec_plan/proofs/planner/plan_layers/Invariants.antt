use Rattle.exec_plan.specs.Ahead.{AreTaken}
use Rattle.exec_plan.specs.Drafts.{picked}
use Rattle.exec_plan.specs.Past.{as_if}
use Rattle.exec_plan.specs.Waits.{IsWaiting}
use Rattle.exec_plan.proofs.Looking.{Goes}
use Rattle.exec_plan.proofs.planner.plan_layers.Given as goal

-- the layers that are left make up the whole plan
abbrev pub invariant-loop-left : goal.invariant-loop-left
invariant-loop-left l = record {
  goes : Goes l.store l.admission.admission l.held l.left l.ahead.planned.keys (picked l.held l.ahead.places);
  filed : IsWaiting (as_if l.ahead.planned.keys l.store) l.admission.admission l.held l.waiting;
  taken : AreTaken l.held l.ahead.planned.keys l.ahead.taken;
}

abbrev pub decreases-loop-left : goal.decreases-loop-left
decreases-loop-left l = l.left
