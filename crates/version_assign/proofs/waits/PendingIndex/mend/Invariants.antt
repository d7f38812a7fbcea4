use Rattle.version_assign.specs.Waiting.{AreAwake}
use Rattle.version_assign.proofs.waits.PendingIndex.mend.Given as goal

-- those that were passed may be free
abbrev pub invariant-loop-place : goal.invariant-loop-place
invariant-loop-place l = AreAwake l.book.low l.place l.self
