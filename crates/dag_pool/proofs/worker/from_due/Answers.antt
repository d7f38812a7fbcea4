use Rattle.std.proofs.Common.{◌≡◌, ◌+◌, subst, ◌∙◌, length, cond, arith}
use Rattle.steal_board.specs.Boards.{view}
use Rattle.dag_pool.specs.Crews.{plan_of}
use Rattle.dag_pool.proofs.Owing.{owed_popped, owed_inside}
use Rattle.dag_pool.proofs.worker.from_due.Goals as goal

pub try_task-requires-clause-task : goal.try_task-requires-clause-task
try_task-requires-clause-task g c =
    let plan = plan_of c.args.crew.now in
    let owed = owed_popped plan.edges (length plan.jobs) c.args.crew.now.workers c.args.number (view c.loop-task.post.seat) c.loop-task.post.due.items c.pop.new.self.items c.in-Some.task c.loop-task.post.starved c.in-Some.ensures.items c.loop-task.invariant.ready.owed in
    owed_inside plan.edges (length plan.jobs) c.args.crew.now.workers c.args.number _ c.in-Some.task _ _ owed

pub returns-then-branch-clause-turned : goal.returns-then-branch-clause-turned
returns-then-branch-clause-turned g c =
    let plan = plan_of c.args.crew.now in
    let owed = owed_popped plan.edges (length plan.jobs) c.args.crew.now.workers c.args.number (view c.loop-task.post.seat) c.loop-task.post.due.items c.pop.new.self.items c.in-Some.task c.loop-task.post.starved c.in-Some.ensures.items c.loop-task.invariant.ready.owed in
    let more = subst (λ b. length (view c.try_task.new.post.seat).mine ≡ length (view c.loop-task.post.seat).mine + cond b 1 0) c.if-branch.true c.in_ok-try_task.ensures.mine in
    let before = c.loop-task.invariant.mine in
    record { ready = record { good = c.in_ok-try_task.ensures.good; owed = c.in_ok-try_task.ensures.due c.args.number owed }; mine = omega (arith, more, before) }

pub loop-task-preserved : goal.loop-task-preserved
loop-task-preserved g c =
    let plan = plan_of c.args.crew.now in
    let owed = owed_popped plan.edges (length plan.jobs) c.args.crew.now.workers c.args.number (view c.loop-task.post.seat) c.loop-task.post.due.items c.pop.new.self.items c.in-Some.task c.loop-task.post.starved c.in-Some.ensures.items c.loop-task.invariant.ready.owed in
    let more = subst (λ b. length (view c.try_task.new.post.seat).mine ≡ length (view c.loop-task.post.seat).mine + cond b 1 0) c.if-branch.false c.in_ok-try_task.ensures.mine in
    let before = c.loop-task.invariant.mine in
    record {
      ready = record { good = c.in_ok-try_task.ensures.good; owed = c.in_ok-try_task.ensures.due c.args.number owed };
      kept = record { of = c.try_task.ensures.of; share = c.try_task.ensures.share ∙ c.loop-task.invariant.kept.share };
      mine = omega (arith, more, before);
    }
