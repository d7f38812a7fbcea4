use Rattle.std.proofs.Common.{◌≡◌, ◌∙◌, length, arith}
use Rattle.std.proofs.lemmas.List.{take_all}
use Rattle.dag_core.specs.Plans.{plan_outputs}
use Rattle.dag_core.proofs.Fixed.{length-outputs}
use Rattle.dag_core.proofs.Plain.{outputs_more}
use Rattle.dag_core.proofs.PlanFacts.{is_plan}
use Rattle.dag_core.proofs.evaluate.evaluate_plain.Goals as goal

pub loop-task-preserved : goal.loop-task-preserved
loop-task-preserved g c =
    let plan = c.args.plan.now in
    let len : length (plan_outputs plan) ≡ length plan.jobs = length-outputs g.J.Job.output g.J.Job.values g.J.Job.takes g.J.Job.gives plan.edges plan.jobs (is_plan plan g.met.J.Job.sized) in
    let tasks = c.tasks-task-end.ensures in
    let lt = c.loop-task-test.true in record {
      outputs = c.in_ok-push.ensures.ok ∙ outputs_more (plan_outputs plan) c.loop-task.outputs c.loop-task.task c.in_ok-output.output (omega (arith, len, tasks, lt)) c.in_ok-output.ensures.output c.loop-task.invariant.outputs;
      waits = c.in_ok-output.ensures.waits;
    }

pub returns : goal.returns
returns g c =
    let plan = c.args.plan.now in
    let len : length (plan_outputs plan) ≡ length plan.jobs = length-outputs g.J.Job.output g.J.Job.values g.J.Job.takes g.J.Job.gives plan.edges plan.jobs (is_plan plan g.met.J.Job.sized) in
    let tasks = c.tasks-task-end.ensures in
    let past = c.loop-task-test.false in
    c.loop-task.invariant.outputs ∙ take_all c.loop-task.task (plan_outputs plan) (omega (arith, len, tasks, past))
