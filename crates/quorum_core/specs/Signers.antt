-- Signers on the wire (BCS; the variant numbers are this profile's).
use Rattle.std.specs.Prelude.{ℕ, ◌⊎◌, refl}
use Rattle.std.proofs.Common.{inl, inr}
use Rattle.digest_core.specs.declared.Digest.{Digest}
use Rattle.wire_bcs.specs.Codec.{Codec}
use Rattle.wire_bcs.specs.Items.{number}
use Rattle.wire_bcs.specs.Shapes.{by}
use Rattle.wire_bcs.specs.Tags.{case, last, choice}
use Rattle.wire_bcs.specs.Digests.{digest}
use Rattle.quorum_core.specs.declared.signer.Signer.{Signer}
use Rattle.quorum_core.specs.declared.signer.Signer.TheVariants as signers

-- ---- Member 0 (u32); User 1 (address)

abbrev pub signer_to : Signer → ℕ ⊎ Digest
signer_to (signers.Member member) = inl member
signer_to (signers.User address) = inr address

abbrev pub signer_from : ℕ ⊎ Digest → Signer
signer_from (inl member) = signers.Member member
signer_from (inr address) = signers.User address

unfoldable pub signer : Codec Signer
signer = by signer_to signer_from
    (elim [ signers.Member a ↦ refl | signers.User a ↦ refl ])
    (elim [ inl a ↦ refl | inr a ↦ refl ])
    (choice
    (case 0 (number 4)  -- Member
    (last 1 digest)  -- User
    refl) refl)
