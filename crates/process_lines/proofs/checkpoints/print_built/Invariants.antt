use Rattle.std.proofs.Common.{◌≡◌, ◌++◌, take}
use Rattle.std.specs.List.{flat_map}
use Rattle.process_lines.specs.Texts.{built_one}
use Rattle.process_lines.proofs.checkpoints.print_built.Given as goal

abbrev pub invariant-loop-checkpoint : goal.invariant-loop-checkpoint
invariant-loop-checkpoint l = l.out ≡ l.fn.out ++ flat_map (built_one) (take l.checkpoint-index l.built)
