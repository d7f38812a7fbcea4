use Rattle.std.proofs.Common.{◌≡◌, None, fold, length}
use Rattle.std.specs.List.{flat_map}
use Rattle.protocol_spec.specs.Chain.Certificates.{rules_of}
use Rattle.inspect.specs.Certified.{handed_over, with_valid}
use Rattle.inspect.specs.Found.{AreFound}
use Rattle.inspect.proofs.certified.Found.add_handed.Given as goal

-- with those of the lines that are left the certificates are those of all lines
abbrev pub invariant-loop-rest : goal.invariant-loop-rest
invariant-loop-rest g l = record {
  certs : fold (with_valid (rules_of l.committee None (g.S.Checker.accepts l.sealer))) l.self.certs (flat_map handed_over l.rest) ≡ fold (with_valid (rules_of l.committee None (g.S.Checker.accepts l.sealer))) l.fn.self.certs (flat_map handed_over l.events);
  found : AreFound l.committee l.self.certs l.self.spelled;
}

abbrev pub decreases-loop-rest : goal.decreases-loop-rest
decreases-loop-rest g l = length l.rest
