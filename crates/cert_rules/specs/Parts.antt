-- The parts in which a certificate is looked at.
use Rattle.std.specs.Prelude.{ℕ, Bool, not, ◌==◌, List, [], ◌∷◌, length, Option, option_map}
use Rattle.digest_core.specs.declared.Digest.{Digest}
use Rattle.quorum_core.specs.declared.signer.Signer.{Signer}
use Rattle.quorum_core.specs.declared.signer.Signer.TheVariants as signers
use Rattle.quorum_core.specs.Committee.{is_quorum, is_roll, total_of, weight}
use Rattle.chain_types.specs.declared.refusals.CertRefusal.{CertRefusal}
use Rattle.chain_types.specs.declared.refusals.CertRefusal.TheVariants as refused
use Rattle.chain_messages.specs.declared.messages.MemberSeal.{MemberSeal}
use Rattle.chain_messages.specs.declared.messages.Certificate.{Certificate}
use Rattle.protocol_spec.specs.Chain.Words.{first_some, where_true}
use Rattle.protocol_spec.specs.Chain.Keys.{objects_of}
use Rattle.protocol_spec.specs.Chain.Shape.{shape_fault}

-- what is wrong with the transaction and its origins
unfoldable pub object_refusal : Certificate → Option CertRefusal
object_refusal c =
    first_some (
    option_map refused.Shape (shape_fault c.tx) ∷
    where_true (not (length c.origins == length (objects_of c.tx))) (refused.Shape 13) ∷ [])

-- what is wrong with the members
unfoldable pub member_refusal : List ℕ → List ℕ → Option CertRefusal
member_refusal stakes members =
    first_some (
    where_true (not (is_roll stakes members)) refused.Order ∷
    where_true (not (is_quorum stakes (weight stakes members))) (refused.ShortStake (weight stakes members) (total_of stakes)) ∷ [])

-- the seal over these bytes, if it is not accepted
abbrev pub refused_seal : (Signer → List ℕ → Digest → Bool) → List ℕ → MemberSeal → Option CertRefusal
refused_seal accepts bytes s = where_true (not (accepts (signers.Member s.member) bytes s.seal)) (refused.BadSeal s.member)
