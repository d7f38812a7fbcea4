use Rattle.std.proofs.Common.{◌≡◌, ◌≤◌, ◌*◌, take}
use Rattle.std.specs.Prelude.{sum}
use Rattle.quorum_core.proofs.committee.sum_of.Given as goal

abbrev pub invariant-loop-stake : goal.invariant-loop-stake
invariant-loop-stake l = record { value : l.sum ≡ sum (take l.stake-index l.stakes); below : l.sum ≤ l.stake-index * 4294967295 }
