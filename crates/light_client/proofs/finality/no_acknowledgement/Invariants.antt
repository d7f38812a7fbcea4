use Rattle.std.proofs.Common.{◌≡◌, ◌+◌, length}
use Rattle.light_client.specs.Finality.{no_acknowledgement}
use Rattle.light_client.proofs.finality.no_acknowledgement.Given as goal

abbrev pub invariant-loop-rest : goal.invariant-loop-rest
invariant-loop-rest l = record {
  same : no_acknowledgement l.place l.rest ≡ no_acknowledgement 0 l.said;
  place : l.place + length l.rest ≡ length l.said;
}

abbrev pub decreases-loop-rest : goal.decreases-loop-rest
decreases-loop-rest l = length l.rest
