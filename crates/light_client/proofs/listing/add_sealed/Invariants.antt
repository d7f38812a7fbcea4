use Rattle.std.proofs.Common.{length}
use Rattle.light_client.specs.Finality.{AllShort}
use Rattle.light_client.specs.Listing.{of_sealed}
use Rattle.light_client.proofs.Rows.{SoFar}
use Rattle.light_client.proofs.listing.add_sealed.Given as goal

abbrev pub invariant-loop-rest : goal.invariant-loop-rest
invariant-loop-rest l = record {
  so_far : SoFar of_sealed l.said l.listing l.rest;
  short : AllShort l.rest;
}

abbrev pub decreases-loop-rest : goal.decreases-loop-rest
decreases-loop-rest l = length l.rest
