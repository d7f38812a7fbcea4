-- Acknowledgements of members, and what a quorum of them that agree makes final. Source: Sui Lutris (finality of effects that a
-- quorum acknowledged); the order of the causes is this profile's own.
use Rattle.std.specs.Prelude.{◌≡◌, ◌<◌, ℕ, Bool, List, [], ◌∷◌, length, replicate, Option, Some, None, Result, Ok, Err}
use Rattle.digest_core.specs.declared.Digest.{Digest}
use Rattle.chain_types.specs.Equal.{digest_eq}
use Rattle.chain_messages.specs.declared.messages.Statement.{Statement}
use Rattle.chain_messages.specs.declared.messages.Statement.TheVariants as statement
use Rattle.chain_messages.specs.declared.messages.Sealed.{Sealed}
use Rattle.protocol_spec.specs.Chain.Words.{Each}
use Rattle.protocol_spec.specs.Chain.Collecting.{Collected, short, differ, whole, collected}
use Rattle.cert_rules.specs.Collect.{vote_by, voters}
use Rattle.cert_rules.specs.declared.acks.Finality.{Finality}
use Rattle.cert_rules.specs.declared.votes.CollectRefusal.{CollectRefusal}
use Rattle.cert_rules.specs.declared.votes.CollectRefusal.TheVariants as refusal

-- the effects digest of an acknowledgement; zeros for any other statement
abbrev pub effects_in : Statement → Digest
effects_in (statement.Vote epoch tx origins) = record { 0 = replicate 32 0 }
effects_in (statement.End epoch) = record { 0 = replicate 32 0 }
effects_in (statement.Checkpoint epoch number digest) = record { 0 = replicate 32 0 }
effects_in (statement.Ack epoch tx effects) = effects

-- the epoch, the transaction and the effects of an acknowledgement
abbrev pub acked : Statement → Option (ℕ × Digest × Digest)
acked (statement.Vote epoch tx origins) = None
acked (statement.End epoch) = None
acked (statement.Checkpoint epoch number digest) = None
acked (statement.Ack epoch tx effects) = Some (epoch, tx, effects)

-- the epoch, the transaction and the effects of the first acknowledgement
abbrev pub first_acked : List Sealed → Option (ℕ × Digest × Digest)
first_acked [] = None
first_acked (s ∷ acks) = acked s.statement

-- an acknowledgement of a transaction in an epoch, with whatever effects
abbrev pub IsAckOf : ℕ → Digest → Sealed → Type 0
IsAckOf epoch tx s = s.statement ≡ statement.Ack epoch tx (effects_in s.statement)

-- one acknowledgement at least, all of one transaction in one epoch
pub record AreAcks (acks : List Sealed) : Type 0 where
  pub some : 0 < length acks
  pub epoch : ℕ
  pub tx : Digest
  pub each : Each (IsAckOf epoch tx) acks

-- whether two acknowledge the same effects
abbrev pub same_ack : Sealed → Sealed → Bool
same_ack v w = digest_eq (effects_in v.statement) (effects_in w.statement)

-- what these acknowledgements give together, in the order of their members
unfoldable pub acks_collected : List ℕ → List Sealed → Collected
acks_collected stakes acks = collected same_ack stakes (vote_by acks) (voters acks)

-- each of them is of this transaction with these effects in this epoch, and these are the members
pub record IsFinality (acks : List Sealed) (f : Finality) : Type 0 where
  pub all : Each (λ (s : Sealed). s.statement ≡ statement.Ack f.epoch f.tx f.effects) acks
  pub members : f.members ≡ voters acks

-- the call answers the finality if a quorum agrees, else the cause that `Collected` names; if memory was refused
-- nothing is said
abbrev pub MakesFinal : Result Finality CollectRefusal → List Sealed → Collected → Type 0
MakesFinal (Ok f) acks c = (c ≡ whole) × IsFinality acks f
MakesFinal (Err (refusal.Short weight total)) acks c = c ≡ short weight total
MakesFinal (Err (refusal.Differ a b)) acks c = c ≡ differ a b
MakesFinal (Err refusal.OutOfMemory) acks c = Unit {0}
