use Rattle.std.proofs.Common.{◌≡◌, drop}
use Rattle.world_spec.specs.Report.{origin_name}
use Rattle.world_spec.specs.Known.{world_with}
use Rattle.world_lines.specs.Pushed.{each_pushed}
use Rattle.world_lines.proofs.words.add_origins.Given as goal

-- the rest of the loop adds what is missing
abbrev pub invariant-loop-origin : goal.invariant-loop-origin
invariant-loop-origin l = each_pushed (origin_name (world_with l.directory)) l.names (drop l.origin-index l.origins) ≡ each_pushed (origin_name (world_with l.directory)) l.fn.names l.origins
