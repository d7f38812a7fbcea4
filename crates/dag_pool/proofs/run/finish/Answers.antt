use Rattle.std.proofs.Common.{sym, ◌∙◌, arith, length}
use Rattle.dag_core.specs.Plans.{plan_outputs}
use Rattle.dag_core.proofs.Fixed.{length-outputs}
use Rattle.dag_core.proofs.PlanFacts.{is_plan}
use Rattle.steal_board.specs.Boards.{view}
use Rattle.dag_pool.specs.Crews.{plan_of}
use Rattle.dag_pool.proofs.Sweeps.{pairs_inside, left_none, edges_once}
use Rattle.dag_pool.proofs.run.finish.Goals as goal

pub in_order-requires-clause-inside : goal.in_order-requires-clause-inside
in_order-requires-clause-inside g c =
    let plan = plan_of c.args.crew.now in
    let size = length-outputs g.J.Job.output g.J.Job.values g.J.Job.takes g.J.Job.gives plan.edges plan.jobs (is_plan plan g.met.J.Job.sized) in
    pairs_inside c.tasks.result (plan_outputs plan) c.sweep.new.post.outputs.items (size ∙ sym c.tasks.ensures) c.in_ok-swept.ensures.swept.brings.right

pub in_order-requires-clause-all : goal.in_order-requires-clause-all
in_order-requires-clause-all g c =
    let swept = c.in_ok-swept.ensures.swept in
    let tasks = c.tasks.ensures in
    λ task lt. let mine = swept.all task (omega (arith, tasks, lt)) in let brought = swept.brings.all task in omega (arith, mine, brought)

pub returns-clause-outputs : goal.returns-clause-outputs
returns-clause-outputs g c =
    let plan = plan_of c.args.crew.now in
    let size = length-outputs g.J.Job.output g.J.Job.values g.J.Job.takes g.J.Job.gives plan.edges plan.jobs (is_plan plan g.met.J.Job.sized) in
    c.in_ok-in_order.ensures (plan_outputs plan) (size ∙ sym c.tasks.ensures) c.in_ok-swept.ensures.swept.brings.right

pub returns-clause-edges : goal.returns-clause-edges
returns-clause-edges g c =
    let plan = plan_of c.args.crew.now in
    let swept = c.in_ok-swept.ensures.swept in
    edges_once plan.edges (length plan.jobs) (view c.sweep.new.post.seat) plan.forward swept.clean swept.all swept.once

pub returns-clause-swept : goal.returns-clause-swept
returns-clause-swept g c =
    let plan = plan_of c.args.crew.now in
    λ fed. c.in_ok-swept.ensures.none (left_none plan.edges (length plan.jobs) c.args.crew.now.workers (plan_outputs plan) (view c.args.shift.post.seat) c.args.shift.post.outputs.items c.args.shift.post.starved c.args.crew.now.some (c.requires.worked.left c.if-lost.false) fed)
