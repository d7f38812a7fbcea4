use Rattle.std.proofs.Common.{◌≡◌, None, drop, fold, map}
use Rattle.protocol_spec.specs.Chain.Certificates.{rules_of}
use Rattle.world_spec.specs.Names.{cert_in}
use Rattle.inspect.specs.Certified.{with_valid}
use Rattle.inspect.specs.Found.{AreFound}
use Rattle.inspect.proofs.blame.add_formed.Given as goal

-- with those that were formed after this place the certificates are those of all places
abbrev pub invariant-loop-place : goal.invariant-loop-place
invariant-loop-place g l = record {
  certs : fold (with_valid (rules_of l.world.terms.stakes None (g.S.Checker.accepts l.sealer))) l.found.certs (map cert_in (drop l.place l.world.certs)) ≡ fold (with_valid (rules_of l.world.terms.stakes None (g.S.Checker.accepts l.sealer))) l.fn.found.certs (map cert_in l.world.certs);
  found : AreFound l.world.terms.stakes l.found.certs l.found.spelled;
}
