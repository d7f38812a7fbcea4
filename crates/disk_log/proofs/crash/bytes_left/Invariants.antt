use Rattle.std.proofs.Common.{◌≡◌, length}
use Rattle.disk_log.specs.Crash.{MayBegin}
use Rattle.disk_log.proofs.crash.bytes_left.Given as goal

abbrev pub invariant-loop-place : goal.invariant-loop-place
invariant-loop-place l = record {
  size : length l.bytes ≡ l.place;
  bytes : MayBegin l.moment l.bytes;
}
