-- How a sealer's seals are made and accepted.
use Rattle.std.specs.Prelude.{ℕ, Bool, List}
use Rattle.digest_core.specs.declared.Digest.{Digest}
use Rattle.quorum_core.specs.declared.signer.Signer.{Signer}
use Rattle.world_spec.specs.Setting.{Trust}

abbrev pub trust_by : (Signer → List ℕ → Digest) → (Signer → List ℕ → Digest → Bool) → Trust
trust_by seal accepts = record { seal = seal; accepts = accepts }
