use Rattle.std.proofs.Common.{List, Option, subst, sym}
use Rattle.version_assign.specs.declared.book.PendingCertificate.{PendingCertificate}
use Rattle.version_assign.specs.Waiting.{TurnsOn, room_in}
use Rattle.version_assign.proofs.Filed.{opened_full, opened_room}
use Rattle.version_assign.proofs.waits.PendingIndex.open_one.Goals as goal

pub returns-then-has_room : goal.returns-then-has_room
returns-then-has_room c = λ rest.
    opened_room c.args.book.now.rows.items (room_in c.args.book.now) c.args.self.now c.wake_next.new.self c.args.id.now rest
    (subst (λ (rows : List (Option PendingCertificate)). TurnsOn rows c.args.self.now c.wake_next.new.self c.args.id.now) c.as_slice.ensures.value c.wake_next.ensures)

pub returns-else-has_room : goal.returns-else-has_room
returns-else-has_room c = λ rest. opened_full c.args.book.now.rows.items (room_in c.args.book.now) c.args.self.now c.args.id.now rest (sym c.if-has_room.ensures)
