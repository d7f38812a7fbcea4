use Rattle.version_assign.proofs.Moved.{released}
use Rattle.version_assign.proofs.waits.PendingIndex.release.Goals as goal

pub returns : goal.returns
returns c = λ before row same t filed.
    released before c.args.book.now c.args.place row c.args.held.now same t c.args.self.now c.rest.new.self c.wake_behind.new.self c.open_all.new.self c.digest.result.now c.writes.result.now c.digest.ensures c.writes.ensures c.rest.ensures c.wake_behind.ensures c.open_all.ensures filed
