use Rattle.follower_core.proofs.Settling.{settles_more}
use Rattle.follower_core.proofs.ledger.settle_all.Goals as goal

pub loop-id-preserved : goal.loop-id-preserved
loop-id-preserved c = settles_more _ _ _ _ _ _ _ _ c.loop-id.invariant c.in-Some.ensures.entries c.settle_one.ensures.change c.settle_one.ensures.room
