use Rattle.std.proofs.Common.{drop}
use Rattle.version_assign.specs.Waiting.{OpensSince, room_in}
use Rattle.version_assign.proofs.waits.PendingIndex.open_since.Given as goal

-- the queues of those that were passed are open
abbrev pub invariant-loop-place : goal.invariant-loop-place
invariant-loop-place l = OpensSince l.book.rows.items (room_in l.book) l.fn.self l.self (drop l.from l.book.admitted.entries) (drop l.place l.book.admitted.entries)
