use Rattle.std.proofs.Common.{length}
use Rattle.light_check.specs.Chains.{AllShort}
use Rattle.light_client.specs.Listing.{of_link}
use Rattle.light_client.proofs.Rows.{SoFar}
use Rattle.light_client.proofs.listing.add_links.Given as goal

abbrev pub invariant-loop-rest : goal.invariant-loop-rest
invariant-loop-rest l = record {
  so_far : SoFar of_link l.links l.listing l.rest;
  short : AllShort l.rest;
}

abbrev pub decreases-loop-rest : goal.decreases-loop-rest
decreases-loop-rest l = length l.rest
