use Rattle.std.proofs.Common.{◌≡◌, length}
use Rattle.protocol_spec.specs.Chain.Words.{first_of}
use Rattle.light_client.specs.Finality.{AllShort, bad_seal}
use Rattle.light_client.proofs.finality.first_bad_seal.Given as goal

abbrev pub invariant-loop-rest : goal.invariant-loop-rest
invariant-loop-rest g l = record {
  same : first_of (bad_seal (g.C.Checker.accepts l.checker)) l.rest ≡ first_of (bad_seal (g.C.Checker.accepts l.checker)) l.said;
  short : AllShort l.rest;
}

abbrev pub decreases-loop-rest : goal.decreases-loop-rest
decreases-loop-rest g l = length l.rest
