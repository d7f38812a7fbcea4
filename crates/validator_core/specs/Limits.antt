-- What contracts see of the state of a member: the member, and the limit of writers of its sequences.
use Rattle.std.specs.Prelude.{ℕ, Bool, List, Option}
use Rattle.digest_core.specs.declared.Digest.{Digest}
use Rattle.quorum_core.specs.declared.signer.Signer.{Signer}
use Rattle.protocol_spec.specs.Member.Member.{Member}
use Rattle.world_spec.specs.Terms.{Terms}

-- which seals are accepted
abbrev pub Accepting : Type 0
Accepting = Signer → List ℕ → Digest → Bool

pub record Limited : Type 0 where
  pub writers : Option ℕ
  pub member : Member

-- the terms of a committee of these stakes under the limit
abbrev pub terms_at : Limited → List ℕ → Terms
terms_at s stakes = record { stakes = stakes; writers = s.writers }
