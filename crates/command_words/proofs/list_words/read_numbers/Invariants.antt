use Rattle.std.proofs.Common.{◌≡◌, ◌≤◌, length}
use Rattle.schedule_text.specs.Left.{parts_left, size_left}
use Rattle.command_words.proofs.ListWords.{ReadsOn}
use Rattle.command_words.proofs.list_words.read_numbers.Given as goal

abbrev pub invariant-loop-left : goal.invariant-loop-left
invariant-loop-left l = record {
  reads : ReadsOn l.low l.high l.word l.row l.count (parts_left 44 l.left);
  size : length l.row ≡ 64;
  room : l.count ≤ 64;
}

abbrev pub decreases-loop-left : goal.decreases-loop-left
decreases-loop-left l = size_left l.left
