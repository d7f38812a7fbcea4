use Rattle.std.proofs.Common.{◌≡◌, drop}
use Rattle.version_assign.specs.Steps.{clear_each}
use Rattle.version_assign.proofs.Lining.{KeepsLines}
use Rattle.version_assign.proofs.entries.clear_since.Given as goal

-- from here the loop gives what the whole loop gives
abbrev pub invariant-loop-place : goal.invariant-loop-place
invariant-loop-place l = record {
  same : clear_each l.lines.entries (drop l.place l.admitted.entries) ≡ clear_each l.fn.lines.entries (drop l.from l.admitted.entries);
  kept : KeepsLines l.fn.lines.entries l.lines.entries;
}
