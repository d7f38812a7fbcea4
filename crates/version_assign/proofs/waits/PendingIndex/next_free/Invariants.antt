use Rattle.version_assign.specs.Waiting.{IsFiledIn}
use Rattle.version_assign.proofs.waits.PendingIndex.next_free.Given as goal

-- each that waits is filed
abbrev pub invariant-loop-round : goal.invariant-loop-round
invariant-loop-round l = IsFiledIn l.book l.self
