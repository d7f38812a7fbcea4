use Rattle.std.proofs.Common.{◌≡◌}
use Rattle.schedule_text.specs.Bytes.{each_of}
use Rattle.schedule_text.specs.Commands.{arg_of}
use Rattle.schedule_text.specs.Left.{parts_left, size_left}
use Rattle.schedule_text.proofs.Each.{after_front}
use Rattle.schedule_text.proofs.commands.args_of.Given as goal

abbrev pub invariant-loop-left : goal.invariant-loop-left
invariant-loop-left l =
    after_front l.args (each_of arg_of (parts_left 44 l.left)) ≡ each_of arg_of (parts_left 44 l.initial.left)

abbrev pub decreases-loop-left : goal.decreases-loop-left
decreases-loop-left l = size_left l.left
