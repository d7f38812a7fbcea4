use Rattle.std.proofs.Common.{◌≡◌, ◌+◌, length}
use Rattle.dag_pool.proofs.kit.make_kits.Given as goal

abbrev pub invariant-loop-hand : goal.invariant-loop-hand
invariant-loop-hand l = length l.kits.items + length l.hands ≡ l.workers

abbrev pub decreases-loop-hand : goal.decreases-loop-hand
decreases-loop-hand l = length l.hands

abbrev pub invariant-loop-distance : goal.invariant-loop-distance
invariant-loop-distance l = length l.kits.items ≡ l.workers
