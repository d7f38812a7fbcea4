use Rattle.std.proofs.Common.{length}
use Rattle.dag_pool.proofs.Sorting.{Sorts}
use Rattle.dag_pool.proofs.order.in_order.Given as goal

abbrev pub invariant-loop-task : goal.invariant-loop-task
invariant-loop-task g l = Sorts l.tasks l.fn.pairs.items l.pairs.items l.slots.items

abbrev pub decreases-loop-task : goal.decreases-loop-task
decreases-loop-task g l = length l.pairs.items
