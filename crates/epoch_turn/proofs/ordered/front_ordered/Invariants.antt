use Rattle.std.proofs.Common.{◌≡◌, ◌+◌, ◌≤◌, length}
use Rattle.epoch_turn.specs.Dues.{front_length, is_ordered}
use Rattle.epoch_turn.proofs.ordered.front_ordered.Given as goal

-- those found, and those that will be
abbrev pub invariant-loop-rest : goal.invariant-loop-rest
invariant-loop-rest l = record {
  value : l.count + front_length (is_ordered l.admission.admission) l.rest ≡ front_length (is_ordered l.admission.admission) l.held;
  most : l.count + length l.rest ≤ length l.held;
}

abbrev pub decreases-loop-rest : goal.decreases-loop-rest
decreases-loop-rest l = length l.rest
