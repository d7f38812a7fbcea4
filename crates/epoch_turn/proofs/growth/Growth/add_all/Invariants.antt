use Rattle.std.proofs.Common.{◌≡◌, ◌≤◌, length}
use Rattle.epoch_turn.specs.Dues.{front_length, is_due_done, size_of}
use Rattle.epoch_turn.specs.Kept.{grown_all}
use Rattle.epoch_turn.proofs.growth.Growth.add_all.Given as goal

-- what the cuts that are left add is what all add
abbrev pub invariant-loop-rest : goal.invariant-loop-rest
invariant-loop-rest l = record {
  front : l.ready ≡ front_length (is_due_done l.store.executed) l.left;
  sizes : size_of l.rest ≤ length l.left;
  same : grown_all l.epoch l.store.executed l.self l.left l.rest ≡ grown_all l.epoch l.store.executed l.fn.self l.due l.marks;
}

abbrev pub decreases-loop-rest : goal.decreases-loop-rest
decreases-loop-rest l = length l.rest
