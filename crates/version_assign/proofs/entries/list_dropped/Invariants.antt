use Rattle.std.proofs.Common.{◌≡◌, ◌++◌, ◌+◌, ◌≤◌, drop, length, vec_len}
use Rattle.std.specs.Vec.{vec_capacity}
use Rattle.version_assign.proofs.entries.list_dropped.Given as goal

-- what is listed, and then what is left
abbrev pub invariant-loop-place : goal.invariant-loop-place
invariant-loop-place l = record {
  same : l.list.items ++ drop l.place l.dropped ≡ drop l.from l.dropped;
  len : vec_len l.list + l.from ≡ l.place;
  room : length l.dropped ≤ l.from + vec_capacity l.list;
}
