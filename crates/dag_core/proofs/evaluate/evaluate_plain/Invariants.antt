use Rattle.std.proofs.Common.{◌≡◌, take}
use Rattle.dag_core.specs.Values.{Waits}
use Rattle.dag_core.specs.Plans.{plan_values, plan_outputs}
use Rattle.dag_core.proofs.evaluate.evaluate_plain.Given as goal

abbrev pub invariant-loop-task : goal.invariant-loop-task
invariant-loop-task g l = record {
  outputs : l.outputs ≡ take l.task (plan_outputs l.plan);
  waits : Waits l.plan.edges (plan_values l.plan) l.slots l.task;
}
