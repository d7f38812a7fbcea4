use Rattle.std.proofs.Common.{ap, sym, subst, ◌∙◌, arith, length, [], ◌∷◌}
use Rattle.steal_board.specs.Boards.{view}
use Rattle.steal_board.specs.Views.{with_paid, with_ready}
use Rattle.dag_pool.specs.Work.{Paid, IsOwed}
use Rattle.dag_pool.specs.Crews.{plan_of}
use Rattle.dag_pool.proofs.Tasks.{paid_one, paid_ready}
use Rattle.dag_pool.proofs.Owing.{owed_ready}
use Rattle.dag_pool.proofs.task.pay_edge.Goals as goal

pub returns-then-pay-clause-paid : goal.returns-then-pay-clause-paid
returns-then-pay-clause-paid g c = subst (λ s. Paid (view c.args.post.now.seat) (c.args.place ∷ []) (view s)) (sym c.note.ensures.seat) (paid_ready _ _ _ _ c.if-pay.ensures.view)

pub returns-then-pay-clause-owed : goal.returns-then-pay-clause-owed
returns-then-pay-clause-owed g c =
    let plan = plan_of c.args.crew.now in
    let told = c.if-pay.ensures.view ∙ ap (λ t. with_ready (with_paid (view c.args.post.now.seat) c.args.place) t) (sym c.target.ensures) in
    let forward = (plan.forward c.args.place c.requires.place).1 in
    let is = c.target.ensures in
    λ number o. subst (λ s. IsOwed plan.edges (length plan.jobs) c.args.crew.now.workers number (view s) c.note.new.post.due.items c.note.new.post.starved) (sym c.note.ensures.seat)
    (owed_ready plan.edges (length plan.jobs) c.args.crew.now.workers number _ _ c.args.place c.target.result c.args.post.now.due.items _ c.args.post.now.starved _ told (omega (arith, forward, is)) c.note.ensures.due c.note.ensures.most o)

pub returns-else-pay-clause-paid : goal.returns-else-pay-clause-paid
returns-else-pay-clause-paid g c = paid_one _ _ _ c.if-pay.ensures.view
