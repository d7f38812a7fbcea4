use Rattle.std.proofs.Common.{length}
use Rattle.version_assign.specs.Waiting.{Opens, room_in}
use Rattle.version_assign.proofs.waits.PendingIndex.open_all.Given as goal

-- the queues of the objects that were passed are open
abbrev pub invariant-loop-rest : goal.invariant-loop-rest
invariant-loop-rest l = Opens l.book.rows.items (room_in l.book) l.fn.self l.self l.ids l.rest

abbrev pub decreases-loop-rest : goal.decreases-loop-rest
decreases-loop-rest l = length l.rest
