-- Certified chains: what a client knows that trusts only the stakes of a committee and the seals that it accepts. Source:
-- Sui Lutris; where the chain begins is this profile's own.
use Rattle.std.specs.Prelude.{◌≡◌, ℕ, ◌+◌, Bool, true, List, [], ◌∷◌, map, Option, Some, None, option_map, if◌then◌else◌}
use Rattle.digest_core.specs.declared.Digest.{Digest}
use Rattle.quorum_core.specs.declared.signer.Signer.{Signer}
use Rattle.quorum_core.specs.declared.signer.Signer.TheVariants as signers
use Rattle.quorum_core.specs.Committee.{is_quorum, is_roll, weight}
use Rattle.chain_messages.specs.declared.messages.MemberSeal.{MemberSeal}
use Rattle.chain_messages.specs.declared.messages.Statement.TheVariants as statements
use Rattle.chain_messages.specs.Messages.{statement}
use Rattle.checkpoint_core.specs.declared.checkpoints.Checkpoint.{Checkpoint}
use Rattle.checkpoint_core.specs.Checkpoints.{digest_of_checkpoint}
use Rattle.checkpoint_core.specs.Links.{wanted_number, wanted_parent}
use Rattle.protocol_spec.specs.Chain.Words.{Each}
use Rattle.light_check.specs.declared.chain.Link.{Link}

-- a seal scheme: which seals of which signer over which bytes are accepted
abbrev pub Accepting : Type 0
Accepting = Signer → List ℕ → Digest → Bool

-- the number and the digest of a checkpoint
abbrev pub tip_of : Checkpoint → ℕ × Digest
tip_of c = (c.number, digest_of_checkpoint c)

-- the epoch that the checkpoint after this one has to have, 0 for the first
abbrev pub wanted_epoch : Option Checkpoint → ℕ
wanted_epoch None = 0
wanted_epoch (Some c) = if c.last then c.epoch + 1 else c.epoch

abbrev pub members_in : Link → List ℕ
members_in l = map (λ (s : MemberSeal). s.member) l.seals

-- the bytes that a member seals for a checkpoint that it built: the encoding of its statement
abbrev pub stated : Checkpoint → List ℕ
stated c = statement.spell (statements.Checkpoint c.epoch c.number (digest_of_checkpoint c))

abbrev pub IsAccepted : Accepting → List ℕ → MemberSeal → Type 0
IsAccepted accepts bytes s = accepts (signers.Member s.member) bytes s.seal ≡ true

-- a link goes on from the checkpoint before it, and has the seals of a quorum
pub record IsLinked (stakes : List ℕ) (accepts : Accepting) (before : Option Checkpoint) (l : Link) : Type 0 where
  pub number : l.checkpoint.number ≡ wanted_number (option_map tip_of before)
  pub parent : l.checkpoint.parent ≡ wanted_parent (option_map tip_of before)
  pub epoch : l.checkpoint.epoch ≡ wanted_epoch before
  pub roll : is_roll stakes (members_in l) ≡ true
  pub quorum : is_quorum stakes (weight stakes (members_in l)) ≡ true
  pub sealed : Each (IsAccepted accepts (stated l.checkpoint)) l.seals

-- each link goes on from the one before it, the first from this checkpoint, and each has the seals of a quorum
abbrev pub IsCertifiedBehind : List ℕ → Accepting → Option Checkpoint → List Link → Type 0
IsCertifiedBehind stakes accepts before [] = Unit {0}
IsCertifiedBehind stakes accepts before (l ∷ ls) = IsLinked stakes accepts before l × IsCertifiedBehind stakes accepts (Some l.checkpoint) ls

-- a chain is certified: it begins with number 0, and each link goes on from the one before and has the seals of a
-- quorum
abbrev pub IsCertified : List ℕ → Accepting → List Link → Type 0
IsCertified stakes accepts links = IsCertifiedBehind stakes accepts None links
