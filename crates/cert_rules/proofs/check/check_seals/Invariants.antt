use Rattle.std.proofs.Common.{◌≡◌, length}
use Rattle.protocol_spec.specs.Chain.Words.{first_of}
use Rattle.cert_rules.specs.Parts.{refused_seal}
use Rattle.cert_rules.proofs.check.check_seals.Given as goal

abbrev pub invariant-loop-rest : goal.invariant-loop-rest
invariant-loop-rest g l =
    let test = refused_seal (g.C.Checker.accepts l.checker) l.bytes in
    first_of test l.rest ≡ first_of test l.seals

abbrev pub decreases-loop-rest : goal.decreases-loop-rest
decreases-loop-rest g l = length l.rest
