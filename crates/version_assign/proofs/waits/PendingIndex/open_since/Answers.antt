use Rattle.std.proofs.Common.{◌≡◌, ◌<◌, arith, drop, length}
use Rattle.version_assign.specs.Waiting.{room_in}
use Rattle.version_assign.proofs.Moved.{opens_next}
use Rattle.version_assign.proofs.waits.PendingIndex.open_since.Goals as goal

pub loop-place-preserved : goal.loop-place-preserved
loop-place-preserved c =
    let n : c.len-place-end.result ≡ length c.args.book.now.admitted.entries = c.len-place-end.ensures.len in
    let t : c.loop-place.place < c.len-place-end.result = c.loop-place-test.true in
    opens_next c.args.book.now.rows.items (room_in c.args.book.now) c.args.self.now c.loop-place.self c.open_at.new.self c.args.book.now.admitted.entries (drop c.args.from c.args.book.now.admitted.entries) c.loop-place.place
    (omega arith) c.open_at.ensures c.loop-place.invariant
