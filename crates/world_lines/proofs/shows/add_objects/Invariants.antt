use Rattle.std.proofs.Common.{◌≡◌, drop}
use Rattle.world_spec.specs.Report.{object_line}
use Rattle.world_spec.specs.Known.{setting_with, world_with}
use Rattle.world_lines.specs.Pushed.{each_pushed}
use Rattle.world_lines.proofs.shows.add_objects.Given as goal

-- the rest of the loop adds what is missing
abbrev pub invariant-loop-object : goal.invariant-loop-object
invariant-loop-object l = each_pushed (object_line (setting_with l.directory) (world_with l.directory)) l.lines (drop l.object-index l.objects) ≡ each_pushed (object_line (setting_with l.directory) (world_with l.directory)) l.fn.lines l.objects
