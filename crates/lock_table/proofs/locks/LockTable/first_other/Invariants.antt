use Rattle.std.proofs.Common.{◌≡◌, length}
use Rattle.lock_table.specs.Locks.{other_lock}
use Rattle.lock_table.proofs.locks.LockTable.first_other.Given as goal

-- no other transaction holds a key that was passed
abbrev pub invariant-loop-rest : goal.invariant-loop-rest
invariant-loop-rest l = other_lock l.self l.tx l.rest ≡ other_lock l.self l.tx l.keys

abbrev pub decreases-loop-rest : goal.decreases-loop-rest
decreases-loop-rest l = length l.rest
