use Rattle.std.proofs.Common.{◌≡◌, [], drop, fold}
use Rattle.inspect.specs.Uses.{with_cert}
use Rattle.inspect.proofs.suspects.uses_of.Given as goal

abbrev pub invariant-loop-cert : goal.invariant-loop-cert
invariant-loop-cert l = fold with_cert l.uses (drop l.cert-index l.certs) ≡ fold with_cert [] l.certs
