-- What the members of a committee go by, but for the seals that they accept: their stakes, and the limit of writers of
-- their sequences. Source: Sui Lutris; the limit is this profile's own.
use Rattle.std.specs.Prelude.{ℕ, Bool, List, Option}
use Rattle.digest_core.specs.declared.Digest.{Digest}
use Rattle.quorum_core.specs.declared.signer.Signer.{Signer}
use Rattle.protocol_spec.specs.Chain.Certificates.{Rules, rules_of}

pub record Terms : Type 0 where
  pub stakes : List ℕ
  pub writers : Option ℕ

-- the terms of these rules
abbrev pub terms_of : Rules → Terms
terms_of r = record { stakes = r.stakes; writers = r.writers }

-- the rules of a committee of these terms that accepts these seals
abbrev pub rules_for : Terms → (Signer → List ℕ → Digest → Bool) → Rules
rules_for terms accepts = rules_of terms.stakes terms.writers accepts
