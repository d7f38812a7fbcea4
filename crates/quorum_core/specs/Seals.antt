-- Seals under a secret. Source: this profile.
use Rattle.std.specs.Prelude.{ℕ, List, ◌++◌}
use Rattle.digest_core.specs.declared.Digest.{Digest}
use Rattle.digest_core.specs.Tagged.{seal_tag, tagged_digest}
use Rattle.quorum_core.specs.declared.signer.Signer.{Signer}
use Rattle.quorum_core.specs.Signers as codecs

-- the digest of the secret, the signer and the bytes
unfoldable pub keyed_seal : List ℕ → Signer → List ℕ → Digest
keyed_seal secret who bytes = tagged_digest seal_tag (secret ++ codecs.signer.spell who ++ bytes)
