use Rattle.std.proofs.Common.{sym, subst, arith}
use Rattle.dag_pool.proofs.Sorting.{Sorts, sorts_none, sorts_more, sorts_full, sorts_all, nil_of, if_both}
use Rattle.dag_pool.proofs.order.in_order.Goals as goal

pub loop-task-init : goal.loop-task-init
loop-task-init g c = subst (Sorts c.args.tasks c.args.pairs.items c.args.pairs.items) (sym c.in_ok-slots.ensures) (sorts_none _ _ c.requires.inside c.requires.all)

pub loop-task-preserved : goal.loop-task-preserved
loop-task-preserved g c = sorts_more _ _ _ _ _ _ _ c.in-Some.ensures.items c.loop-task.invariant

pub loop-task-preserved-in-Some : goal.loop-task-preserved-in-Some
loop-task-preserved-in-Some g c = sorts_more _ _ _ _ _ _ _ c.in-Some.ensures.items c.loop-task.invariant

pub unwrapped-requires : goal.unwrapped-requires
unwrapped-requires g c = let cases = c.in_default.ensures.cases in sorts_full c.args.tasks c.args.pairs.items c.loop-task.slots.items (subst (λ l. Sorts c.args.tasks c.args.pairs.items l c.loop-task.slots.items) (nil_of c.loop-task.pairs.items (omega (arith, cases.0, c.loop-task.pairs.ok))) c.loop-task.invariant)

pub returns : goal.returns
returns g c =
    let cases = c.in_default.ensures.cases in
    let sorts = subst (λ l. Sorts c.args.tasks c.args.pairs.items l c.loop-task.slots.items) (nil_of c.loop-task.pairs.items (omega (arith, cases.0, c.loop-task.pairs.ok))) c.loop-task.invariant in
    if_both c.unwrapped.result c.unwrapped.ensures.len c.unwrapped.ensures.same (λ sorted len same outputs size are. sorts_all c.args.tasks c.args.pairs.items c.loop-task.slots.items sorted outputs sorts len same size are)
