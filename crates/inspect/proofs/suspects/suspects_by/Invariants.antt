use Rattle.std.proofs.Common.{◌≡◌, ◌++◌, drop, filter}
use Rattle.inspect.specs.Uses.{is_suspect}
use Rattle.inspect.proofs.suspects.suspects_by.Given as goal

abbrev pub invariant-loop-cert : goal.invariant-loop-cert
invariant-loop-cert l = l.suspects ++ filter (is_suspect l.uses) (drop l.cert-index l.certs) ≡ filter (is_suspect l.uses) l.certs
