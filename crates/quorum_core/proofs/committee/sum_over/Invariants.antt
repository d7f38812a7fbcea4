use Rattle.std.proofs.Common.{◌≡◌, ◌+◌, true, drop}
use Rattle.quorum_core.specs.Committee.{is_roll, weight}
use Rattle.quorum_core.proofs.committee.sum_over.Given as goal

abbrev pub invariant-loop-member : goal.invariant-loop-member
invariant-loop-member l = record { roll : is_roll l.stakes (drop l.member-index l.members) ≡ true; rest : l.sum + weight l.stakes (drop l.member-index l.members) ≡ weight l.stakes l.members }
