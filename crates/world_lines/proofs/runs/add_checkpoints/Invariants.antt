use Rattle.std.proofs.Common.{◌≡◌, drop}
use Rattle.world_spec.specs.Report.{checkpoint_line}
use Rattle.world_spec.specs.Known.{world_with}
use Rattle.world_lines.specs.Pushed.{each_pushed}
use Rattle.world_lines.proofs.runs.add_checkpoints.Given as goal

-- the rest of the loop adds what is missing
abbrev pub invariant-loop-checkpoint : goal.invariant-loop-checkpoint
invariant-loop-checkpoint l = each_pushed (checkpoint_line (world_with l.directory)) l.lines (drop l.checkpoint-index l.built) ≡ each_pushed (checkpoint_line (world_with l.directory)) l.fn.lines l.built
