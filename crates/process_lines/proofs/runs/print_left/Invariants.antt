use Rattle.std.proofs.Common.{◌≡◌, ◌++◌, take}
use Rattle.std.specs.List.{flat_map}
use Rattle.process_lines.specs.Texts.{left_text}
use Rattle.process_lines.proofs.runs.print_left.Given as goal

abbrev pub invariant-loop-left : goal.invariant-loop-left
invariant-loop-left l = l.out ≡ l.fn.out ++ flat_map (left_text) (take l.left-index l.all)
