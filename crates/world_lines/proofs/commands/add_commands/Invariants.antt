use Rattle.std.proofs.Common.{◌≡◌, drop}
use Rattle.world_spec.specs.Making.{command_of}
use Rattle.world_lines.specs.Pushed.{each_pushed}
use Rattle.world_lines.proofs.commands.add_commands.Given as goal

-- the rest of the loop adds what is missing
abbrev pub invariant-loop-word : goal.invariant-loop-word
invariant-loop-word l = each_pushed command_of l.commands (drop l.word-index l.words) ≡ each_pushed command_of l.fn.commands l.words
