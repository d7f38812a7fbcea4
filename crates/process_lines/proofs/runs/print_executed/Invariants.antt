use Rattle.std.proofs.Common.{◌≡◌, ◌++◌, take}
use Rattle.std.specs.List.{flat_map}
use Rattle.process_lines.specs.Texts.{executed_text}
use Rattle.process_lines.proofs.runs.print_executed.Given as goal

abbrev pub invariant-loop-effects : goal.invariant-loop-effects
invariant-loop-effects l = l.out ≡ l.fn.out ++ flat_map (executed_text) (take l.effects-index l.executed)
