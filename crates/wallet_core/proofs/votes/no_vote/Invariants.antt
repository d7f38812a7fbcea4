use Rattle.std.proofs.Common.{◌≡◌, ◌+◌, length}
use Rattle.wallet_core.specs.Gathering.{no_vote}
use Rattle.wallet_core.proofs.votes.no_vote.Given as goal

abbrev pub invariant-loop-rest : goal.invariant-loop-rest
invariant-loop-rest l = record {
  same : no_vote l.epoch l.digest l.place l.rest ≡ no_vote l.epoch l.digest 0 l.votes;
  place : l.place + length l.rest ≡ length l.votes;
}

abbrev pub decreases-loop-rest : goal.decreases-loop-rest
decreases-loop-rest l = length l.rest
