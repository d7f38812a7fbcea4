use Rattle.std.proofs.Common.{◌≡◌, ◌+◌, ◌≤◌, length}
use Rattle.epoch_turn.specs.Dues.{front_length, is_due_done}
use Rattle.epoch_turn.proofs.due.front_done.Given as goal

-- those found, and those that will be
abbrev pub invariant-loop-rest : goal.invariant-loop-rest
invariant-loop-rest l = record {
  value : l.done + front_length (is_due_done l.store.executed) l.rest ≡ front_length (is_due_done l.store.executed) l.due;
  most : l.done + length l.rest ≤ length l.due;
}

abbrev pub decreases-loop-rest : goal.decreases-loop-rest
decreases-loop-rest l = length l.rest
