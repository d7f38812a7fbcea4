use Rattle.std.proofs.Common.{◌≡◌, ◌++◌, length, map}
use Rattle.exec_plan.specs.Books.{digest_of_held}
use Rattle.exec_plan.specs.Drafts.{picked}
use Rattle.exec_plan.proofs.planner.digests_at.Given as goal

-- what was passed, and then the rest
abbrev pub invariant-loop-rest : goal.invariant-loop-rest
invariant-loop-rest l = l.txs ++ map digest_of_held (picked l.held l.rest) ≡ map digest_of_held (picked l.held l.places)

abbrev pub decreases-loop-rest : goal.decreases-loop-rest
decreases-loop-rest l = length l.rest
