use Rattle.std.proofs.Common.{length}
use Rattle.exec_plan.specs.Behind.{Frees}
use Rattle.exec_plan.proofs.behind.free_behind.Given as goal

-- the places under what was passed are freed
abbrev pub invariant-loop-rest : goal.invariant-loop-rest
invariant-loop-rest l = Frees l.fn.behind.entries l.behind.entries l.freed l.rest l.txs

abbrev pub decreases-loop-rest : goal.decreases-loop-rest
decreases-loop-rest l = length l.rest
