use Rattle.dag_pool.proofs.Sorting.{Empties}
use Rattle.dag_pool.proofs.order.unwrapped.Given as goal

abbrev pub invariant-loop-place : goal.invariant-loop-place
invariant-loop-place g l = Empties l.fn.slots.items l.slots.items l.place l.outputs.items
