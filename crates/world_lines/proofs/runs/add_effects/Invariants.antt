use Rattle.std.proofs.Common.{◌≡◌, drop}
use Rattle.world_spec.specs.Report.{effects_line}
use Rattle.world_spec.specs.Known.{world_with}
use Rattle.world_lines.specs.Pushed.{each_pushed}
use Rattle.world_lines.proofs.runs.add_effects.Given as goal

-- the rest of the loop adds what is missing
abbrev pub invariant-loop-effects : goal.invariant-loop-effects
invariant-loop-effects l = each_pushed (effects_line (world_with l.directory)) l.lines (drop l.effects-index l.executed) ≡ each_pushed (effects_line (world_with l.directory)) l.fn.lines l.executed
