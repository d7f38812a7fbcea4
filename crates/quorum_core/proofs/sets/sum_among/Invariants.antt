use Rattle.std.proofs.Common.{◌≡◌, ◌+◌, ◌*◌, ◌≤◌, length}
use Rattle.quorum_core.specs.Committee.{is_among, weight_from}
use Rattle.quorum_core.proofs.sets.sum_among.Given as goal

-- what is summed up, with what the members after it add, is the weight
abbrev pub invariant-loop-rest : goal.invariant-loop-rest
invariant-loop-rest l = record {
  below : l.sum ≤ l.member * 4294967295;
  few : l.member + length l.rest ≤ 64;
  same : l.sum + weight_from l.member l.rest (is_among l.members) ≡ weight_from 0 l.stakes (is_among l.members);
}

abbrev pub decreases-loop-rest : goal.decreases-loop-rest
decreases-loop-rest l = length l.rest
