-- Effects on the wire (BCS; the variant numbers are this profile's), and their digests (this profile).
use Rattle.std.specs.Prelude.{ℕ, ◌⊎◌, refl}
use Rattle.std.proofs.Common.{inl, inr}
use Rattle.digest_core.specs.declared.Digest.{Digest}
use Rattle.digest_core.specs.Tagged.{effects_tag, tagged_digest}
use Rattle.wire_bcs.specs.Codec.{Codec}
use Rattle.wire_bcs.specs.Items.{number, nothing}
use Rattle.wire_bcs.specs.Shapes.{pair, by, seq}
use Rattle.wire_bcs.specs.Tags.{case, last, choice}
use Rattle.wire_bcs.specs.Digests.{digest}
use Rattle.chain_types.specs.Objects.{object_id, owner}
use Rattle.effects_core.specs.declared.effects.Status.{Status}
use Rattle.effects_core.specs.declared.effects.Status.TheVariants as statuses
use Rattle.effects_core.specs.declared.effects.Written.{Written}
use Rattle.effects_core.specs.declared.effects.Effects.{Effects}

-- ---- Done 0; Failed 1 (command u16, cause u8); Aborted 2 (command u16, code u8)

abbrev pub StatusParts : Type 0
StatusParts = Unit {0} ⊎ ((ℕ × ℕ) ⊎ (ℕ × ℕ))

abbrev pub status_to : Status → StatusParts
status_to statuses.Done = inl tt
status_to (statuses.Failed command cause) = inr (inl (command, cause))
status_to (statuses.Aborted command code) = inr (inr (command, code))

abbrev pub status_from : StatusParts → Status
status_from (inl u) = statuses.Done
status_from (inr (inl p)) = statuses.Failed p.0 p.1
status_from (inr (inr p)) = statuses.Aborted p.0 p.1

unfoldable pub status : Codec Status
status = by status_to status_from
    (elim [ statuses.Done ↦ refl | statuses.Failed a b ↦ refl | statuses.Aborted a b ↦ refl ])
    (elim [ inl u ↦ refl | inr (inl p) ↦ refl | inr (inr p) ↦ refl ])
    (choice
    (case 0 nothing  -- Done
    (case 1 (pair (number 2) (number 1))  -- Failed
    (last 2 (pair (number 2) (number 1)))  -- Aborted
    refl) refl) refl)

-- id, owner, digest
unfoldable pub written : Codec Written
written = by (λ w. (w.id, (w.owner, w.digest))) (λ p. record { id = p.0; owner = p.1.0; digest = p.1.1 }) (λ _. refl) (λ _. refl)
    (pair object_id (pair owner digest))

-- tx digest, status, version, gas, created u32, written, deleted
unfoldable pub effects : Codec Effects
effects = by (λ e. (e.tx, (e.status, (e.version, (e.gas, (e.created, (e.written, e.deleted)))))))
    (λ p. record { tx = p.0; status = p.1.0; version = p.1.1.0; gas = p.1.1.1.0; created = p.1.1.1.1.0; written = p.1.1.1.1.1.0; deleted = p.1.1.1.1.1.1 }) (λ _. refl) (λ _. refl)
    (pair digest (pair status (pair (number 8) (pair (number 8) (pair (number 4) (pair (seq written) (seq object_id)))))))

-- the digest of a transaction's effects
unfoldable pub digest_of_effects : Effects → Digest
digest_of_effects e = tagged_digest effects_tag (effects.spell e)
