use Rattle.std.proofs.Common.{length}
use Rattle.follower_core.proofs.Caught.{Gathers}
use Rattle.follower_core.proofs.catching.find_all.Given as goal

-- from here the loop gives what the whole loop gives
abbrev pub invariant-loop-rest : goal.invariant-loop-rest
invariant-loop-rest g l = Gathers (g.A.Archive.known l.archive) l.items l.txs l.rest

abbrev pub decreases-loop-rest : goal.decreases-loop-rest
decreases-loop-rest g l = length l.rest
