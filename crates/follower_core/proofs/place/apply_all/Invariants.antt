use Rattle.std.proofs.Common.{length}
use Rattle.follower_core.proofs.Walking.{Walks}
use Rattle.follower_core.proofs.place.apply_all.Given as goal

-- what is left gives what all give
abbrev pub invariant-loop-left : goal.invariant-loop-left
invariant-loop-left l = Walks l.fn.ledger l.items l.txs l.ledger l.place l.left l.rest

abbrev pub decreases-loop-left : goal.decreases-loop-left
decreases-loop-left l = length l.left
