use Rattle.std.proofs.Common.{◌≡◌, ◌+◌, length}
use Rattle.wallet_core.specs.Gathering.{no_ack}
use Rattle.wallet_core.proofs.acks.no_ack.Given as goal

abbrev pub invariant-loop-rest : goal.invariant-loop-rest
invariant-loop-rest l = record {
  same : no_ack l.epoch l.digest l.place l.rest ≡ no_ack l.epoch l.digest 0 l.acks;
  place : l.place + length l.rest ≡ length l.acks;
}

abbrev pub decreases-loop-rest : goal.decreases-loop-rest
decreases-loop-rest l = length l.rest
