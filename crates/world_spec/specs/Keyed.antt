-- The program's own seals, a keyed SHA-256 whose key is public: they authenticate nothing. Source: this profile.
use Rattle.std.specs.Prelude.{ℕ, List, replicate}
unfoldable pub use Rattle.quorum_core.specs.Seals.{keyed_seal}
use Rattle.chain_types.specs.Equal.{digest_eq}
use Rattle.world_spec.specs.Setting.{Trust}

-- 32 bytes of hexadecimal 5a
abbrev pub program_secret : List ℕ
program_secret = replicate 32 90

-- exactly the seals that are made so are accepted
abbrev pub keyed : List ℕ → Trust
keyed secret = record {
  seal = keyed_seal secret;
  accepts = λ signer bytes seal. digest_eq seal (keyed_seal secret signer bytes);
}
