use Rattle.version_assign.specs.Waiting.{Passes, count_under}
use Rattle.version_assign.proofs.waits.PendingIndex.wake_next.Given as goal

-- those that were passed no longer wait, or do not write the object
abbrev pub invariant-loop-place : goal.invariant-loop-place
invariant-loop-place l = Passes l.rows l.fn.self l.self l.id

abbrev pub decreases-loop-place : goal.decreases-loop-place
decreases-loop-place l = count_under l.self.queues.entries l.id.0
