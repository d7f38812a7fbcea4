use Rattle.std.proofs.Common.{length}
use Rattle.std.specs.Prelude.{◌↔◌}
use Rattle.disk_log.specs.Disk.{IsOutside}
use Rattle.disk_log.proofs.crash.is_outside.Given as goal

-- the place is outside the ranges that were passed
abbrev pub invariant-loop-rest : goal.invariant-loop-rest
invariant-loop-rest l = IsOutside l.rest l.place ↔ IsOutside l.ranges l.place

abbrev pub decreases-loop-rest : goal.decreases-loop-rest
decreases-loop-rest l = length l.rest
