use Rattle.std.proofs.Common.{◌≡◌, ◌+◌, ◌≤◌, length}
use Rattle.schedule_text.specs.Agrees.{Agrees}
use Rattle.schedule_text.specs.Left.{parts_left, size_left}
use Rattle.schedule_text.specs.Schedule.{read_lines, lines_of}
use Rattle.schedule_text.proofs.reader.add_lines.Given as goal

abbrev pub invariant-loop-left : goal.invariant-loop-left
invariant-loop-left l = record {
  same : read_lines l.number l.reading.schedule (parts_left 10 l.left) ≡ read_lines 1 l.fn.reading.schedule (lines_of l.text);
  agrees : Agrees l.reading;
  few : l.number + size_left l.left ≤ length l.text + 2;
}

abbrev pub decreases-loop-left : goal.decreases-loop-left
decreases-loop-left l = size_left l.left
