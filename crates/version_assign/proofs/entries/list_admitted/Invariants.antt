use Rattle.std.proofs.Common.{◌≡◌, ◌++◌, ◌+◌, ◌≤◌, drop, length, map, vec_len}
use Rattle.std.specs.Vec.{vec_capacity}
use Rattle.version_assign.specs.Steps.{digest_in}
use Rattle.version_assign.proofs.entries.list_admitted.Given as goal

-- what is listed, and then what is left
abbrev pub invariant-loop-place : goal.invariant-loop-place
invariant-loop-place l = record {
  same : l.list.items ++ map digest_in (drop l.place l.admitted.entries) ≡ map digest_in (drop l.from l.admitted.entries);
  len : vec_len l.list + l.from ≡ l.place;
  room : length l.admitted.entries ≤ l.from + vec_capacity l.list;
}
