use Rattle.std.proofs.Common.{◌≡◌, ◌+◌, ◌≤◌, length, drop}
use Rattle.indexmap.specs.IndexMap.{spare}
use Rattle.lock_table.specs.Locks.{with_locks}
use Rattle.lock_table.proofs.locks.insert_all.Given as goal

-- there is room for what is left, and locking it gives what locking all gives
abbrev pub invariant-loop-key : goal.invariant-loop-key
invariant-loop-key l = record {
  room : length l.keys ≤ spare l.locks + l.key-index;
  same : with_locks l.locks.entries (drop l.key-index l.keys) l.tx ≡ with_locks l.fn.locks.entries l.keys l.tx;
}
