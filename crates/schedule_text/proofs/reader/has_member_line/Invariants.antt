use Rattle.std.proofs.Common.{◌≡◌}
use Rattle.std.specs.List.{list_any}
use Rattle.schedule_text.specs.Left.{parts_left, size_left}
use Rattle.schedule_text.specs.Schedule.{begins_member, lines_of}
use Rattle.schedule_text.proofs.reader.has_member_line.Given as goal

abbrev pub invariant-loop-left : goal.invariant-loop-left
invariant-loop-left l = list_any begins_member (parts_left 10 l.left) ≡ list_any begins_member (lines_of l.text)

abbrev pub decreases-loop-left : goal.decreases-loop-left
decreases-loop-left l = size_left l.left
