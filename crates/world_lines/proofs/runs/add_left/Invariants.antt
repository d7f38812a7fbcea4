use Rattle.std.proofs.Common.{◌≡◌, drop}
use Rattle.world_spec.specs.Report.{left_line}
use Rattle.world_spec.specs.Known.{setting_with, world_with}
use Rattle.world_lines.specs.Pushed.{each_pushed}
use Rattle.world_lines.proofs.runs.add_left.Given as goal

-- the rest of the loop adds what is missing
abbrev pub invariant-loop-one : goal.invariant-loop-one
invariant-loop-one l = each_pushed (left_line (setting_with l.directory) (world_with l.directory)) l.lines (drop l.one-index l.left) ≡ each_pushed (left_line (setting_with l.directory) (world_with l.directory)) l.fn.lines l.left
