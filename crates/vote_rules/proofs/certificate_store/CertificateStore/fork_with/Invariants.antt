use Rattle.std.proofs.Common.{◌≡◌, length}
use Rattle.protocol_spec.specs.Chain.Words.{first_of}
use Rattle.vote_rules.specs.Holders.{meets}
use Rattle.vote_rules.proofs.certificate_store.CertificateStore.fork_with.Given as goal

-- no version that was passed is consumed by a held transaction
abbrev pub invariant-loop-rest : goal.invariant-loop-rest
invariant-loop-rest l = first_of (meets l.self) l.rest ≡ first_of (meets l.self) l.keys

abbrev pub decreases-loop-rest : goal.decreases-loop-rest
decreases-loop-rest l = length l.rest
