-- Digests of tagged texts. Source: FIPS 180-4 (SHA-256); the tags are this profile's own.
use Rattle.std.specs.Prelude.{ℕ, List, [], ◌∷◌, ◌++◌}
use Rattle.std.specs.Int.{w64, to_le_bytes}
use Rattle.sha2.specs.Sha256.{sha256}
use Rattle.sha2.specs.Hashers.{Holds256}
use Rattle.digest_core.specs.declared.Digest.{Digest}
use Rattle.digest_core.specs.declared.Hasher.{Hasher}

-- ---- the tags, of what is digested

abbrev pub transaction_tag : ℕ
transaction_tag = 84

abbrev pub object_tag : ℕ
object_tag = 79

abbrev pub effects_tag : ℕ
effects_tag = 69

abbrev pub checkpoint_tag : ℕ
checkpoint_tag = 67

-- an id that a transaction drew, and one that the set-up drew
abbrev pub created_tag : ℕ
created_tag = 73

abbrev pub genesis_tag : ℕ
genesis_tag = 71

-- the name of a user
abbrev pub address_tag : ℕ
address_tag = 65

abbrev pub seal_tag : ℕ
seal_tag = 83

-- ---- digests

-- the digest of a text whose first byte is the tag
unfoldable pub tagged_digest : ℕ → List ℕ → Digest
tagged_digest tag bytes = record { 0 = sha256 (tag ∷ bytes) }

-- the id that a transaction's creation number draws
unfoldable pub created_id_of : Digest → ℕ → Digest
created_id_of tx number = tagged_digest created_tag (tx.0 ++ to_le_bytes w64 number)

-- the id of the n-th object that the set-up makes
unfoldable pub genesis_id_of : ℕ → Digest
genesis_id_of number = tagged_digest genesis_tag (to_le_bytes w64 number)

-- the address of a named user
unfoldable pub address_of_name : List ℕ → Digest
address_of_name name = tagged_digest address_tag name

-- the hasher was fed this text, its tag first
unfoldable pub Hashes : Hasher → List ℕ → Type 0
Hashes hasher fed = Holds256 hasher.inner fed
