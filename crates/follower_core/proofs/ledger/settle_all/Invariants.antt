use Rattle.std.proofs.Common.{length}
use Rattle.follower_core.proofs.Settling.{Settles}
use Rattle.follower_core.proofs.ledger.settle_all.Given as goal

-- what is left to do gives what all give, and there is room for it
abbrev pub invariant-loop-id : goal.invariant-loop-id
invariant-loop-id l = Settles l.fn.objects.entries l.fn.changes.entries l.objects l.changes

abbrev pub decreases-loop-id : goal.decreases-loop-id
decreases-loop-id l = length l.changes.entries
