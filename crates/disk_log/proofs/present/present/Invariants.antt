use Rattle.std.proofs.Common.{◌≡◌, ◌+◌, ◌<◌, ◌^◌, length}
use Rattle.std.specs.Prelude.{All}
use Rattle.disk_log.specs.declared.mem_disk.Change.{Change}
use Rattle.disk_log.specs.Memory.{moment_by, settled_at}
use Rattle.disk_log.proofs.present.present.Given as goal

-- what is left makes of the moment so far what all make of the first
abbrev pub invariant-loop-rest : goal.invariant-loop-rest
invariant-loop-rest l = record {
  same : moment_by l.moment l.rest ≡ moment_by (settled_at l.first) l.changes;
  fit : All (λ (c : Change). c.at + length c.bytes < 2 ^ 63) l.rest;
}

abbrev pub decreases-loop-rest : goal.decreases-loop-rest
decreases-loop-rest l = length l.rest
