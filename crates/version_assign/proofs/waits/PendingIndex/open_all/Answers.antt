use Rattle.version_assign.specs.Waiting.{room_in}
use Rattle.version_assign.proofs.Filed.{opens_first}
use Rattle.version_assign.proofs.waits.PendingIndex.open_all.Goals as goal

pub loop-rest-preserved : goal.loop-rest-preserved
loop-rest-preserved c =
    opens_first c.args.book.now.rows.items (room_in c.args.book.now) c.args.self.now c.loop-rest.self c.open_one.new.self c.args.ids.now c.loop-rest.rest.now _ c.in-len1-up.len_at_least c.loop-rest.invariant c.open_one.ensures
