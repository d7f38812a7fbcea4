use Rattle.std.proofs.Common.{◌≡◌, take}
use Rattle.std.specs.Slots.{slots_items}
use Rattle.steal_board.proofs.words.last_words.Given as goal

abbrev pub invariant-loop-task : goal.invariant-loop-task
invariant-loop-task g l = l.words ≡ take l.task (slots_items l.closed.words)
