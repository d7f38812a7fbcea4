use Rattle.std.proofs.Common.{refl, sym}
use Rattle.version_assign.proofs.Filed.{turned_on}
use Rattle.version_assign.proofs.waits.PendingIndex.wake_next.Goals as goal

pub returns-then-writes_at : goal.returns-then-writes_at
returns-then-writes_at c =
    turned_on c.args.rows.now c.args.self.now c.loop-place.self _ c.wake.new.self c.args.id.now c.in-Some.place c.loop-place.invariant refl refl refl c.in-Some.ensures (sym c.if-writes_at.ensures)
    c.wake.ensures.kept c.wake.ensures.queues c.wake.ensures.awake
