use Rattle.std.proofs.Common.{◌≡◌, length, map}
use Rattle.schedule_text.specs.Bytes.{each_of}
use Rattle.schedule_text.specs.Commands.{command_of}
use Rattle.schedule_text.proofs.Each.{after_front}
use Rattle.schedule_text.proofs.lines.commands_of.Given as goal

abbrev pub invariant-loop-rest : goal.invariant-loop-rest
invariant-loop-rest l = after_front l.commands (each_of command_of (map (λ w. w.now) l.rest)) ≡ each_of command_of (map (λ w. w.now) l.words)

abbrev pub decreases-loop-rest : goal.decreases-loop-rest
decreases-loop-rest l = length l.rest
