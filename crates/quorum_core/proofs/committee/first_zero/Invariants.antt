use Rattle.std.proofs.Common.{◌≡◌, drop}
use Rattle.quorum_core.specs.Committee.{zero_from}
use Rattle.quorum_core.proofs.committee.first_zero.Given as goal

abbrev pub invariant-loop-stake : goal.invariant-loop-stake
invariant-loop-stake l = record { place : l.member ≡ l.stake-index; rest : zero_from l.member (drop l.stake-index l.stakes) ≡ zero_from 0 l.stakes }
