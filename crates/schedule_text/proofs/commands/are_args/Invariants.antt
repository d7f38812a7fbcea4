use Rattle.std.proofs.Common.{◌≡◌}
use Rattle.std.specs.List.{list_all}
use Rattle.schedule_text.specs.Commands.{is_arg}
use Rattle.schedule_text.specs.Left.{parts_left, size_left}
use Rattle.schedule_text.proofs.commands.are_args.Given as goal

abbrev pub invariant-loop-left : goal.invariant-loop-left
invariant-loop-left l = list_all is_arg (parts_left 44 l.left) ≡ list_all is_arg (parts_left 44 l.initial.left)

abbrev pub decreases-loop-left : goal.decreases-loop-left
decreases-loop-left l = size_left l.left
