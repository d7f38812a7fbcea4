-- Certificates made of votes: a transaction with the votes of a quorum that agree. Source: Sui Lutris.
use Rattle.std.specs.Prelude.{◌≡◌, ℕ, Bool, true, ◌==◌, List, [], ◌∷◌, map, length, Option, None, Result, Ok, Err}
use Rattle.digest_core.specs.declared.Digest.{Digest}
use Rattle.chain_types.specs.Digests.{transaction_digest}
use Rattle.chain_types.specs.declared.transactions.Transaction.{Transaction}
use Rattle.chain_messages.specs.declared.messages.Statement.{Statement}
use Rattle.chain_messages.specs.declared.messages.Statement.TheVariants as statement
use Rattle.chain_messages.specs.declared.messages.Sealed.{Sealed}
use Rattle.chain_messages.specs.declared.messages.MemberSeal.{MemberSeal}
use Rattle.chain_messages.specs.declared.messages.Certificate.{Certificate}
use Rattle.protocol_spec.specs.Chain.Words.{Each, first_of, where_true}
use Rattle.protocol_spec.specs.Chain.Tests.{origins_eq}
use Rattle.protocol_spec.specs.Chain.Keys.{objects_of}
use Rattle.protocol_spec.specs.Chain.Shape.{shape_fault}
use Rattle.protocol_spec.specs.Chain.Certificates.{Rules, accepts_statement}
use Rattle.protocol_spec.specs.Chain.Collecting.{Collected, short, differ, whole, collected}
use Rattle.cert_rules.specs.declared.votes.CollectRefusal.{CollectRefusal}
use Rattle.cert_rules.specs.declared.votes.CollectRefusal.TheVariants as refusal

-- ---- votes for a transaction

-- the origins that a vote names
abbrev pub voted_origins : Statement → List (Option Digest)
voted_origins (statement.Vote epoch tx origins) = origins
voted_origins (statement.End epoch) = []
voted_origins (statement.Checkpoint epoch number digest) = []
voted_origins (statement.Ack epoch tx effects) = []

-- a vote for the transaction, in its epoch
abbrev pub IsVoteFor : Transaction → Sealed → Type 0
IsVoteFor t v = v.statement ≡ statement.Vote t.epoch (transaction_digest t) (voted_origins v.statement)

abbrev pub voters : List Sealed → List ℕ
voters votes = map (λ (v : Sealed). v.member) votes

-- ---- what collecting them gives

-- the vote, if it is this member's
abbrev pub vote_if : ℕ → Sealed → Option Sealed
vote_if m v = where_true (v.member == m) v

-- the vote of a member among these
abbrev pub vote_by : List Sealed → ℕ → Option Sealed
vote_by votes m = first_of (vote_if m) votes

-- whether two votes name the same origins
abbrev pub same_vote : Sealed → Sealed → Bool
same_vote v w = origins_eq (voted_origins v.statement) (voted_origins w.statement)

-- what these votes give together, in the order of the voters
unfoldable pub sealed_collected : List ℕ → List Sealed → Collected
sealed_collected stakes votes = collected same_vote stakes (vote_by votes) (voters votes)

abbrev pub first_origins : List Sealed → List (Option Digest)
first_origins [] = []
first_origins (v ∷ votes) = voted_origins v.statement

abbrev pub seal_of : Sealed → MemberSeal
seal_of v = record { member = v.member; seal = v.seal }

-- the transaction, the origins of the votes, and their seals in the same order
abbrev pub certificate_of : Transaction → List Sealed → Certificate
certificate_of t votes = record { tx = t; origins = first_origins votes; seals = map seal_of votes }

-- ---- when the certificate is valid

-- each vote's seal is accepted, the transaction has a valid shape, and the votes name one origin for each object
pub record AreSound (rules : Rules) (t : Transaction) (votes : List Sealed) : Type 0 where
  pub seals : Each (λ (v : Sealed). accepts_statement rules v.member v.statement v.seal ≡ true) votes
  pub shape : shape_fault t ≡ None
  pub origins : length (first_origins votes) ≡ length (objects_of t)

-- ---- what the call answers against it

-- the call answers this value if all agree, else the cause that `Collected` names; if memory was refused nothing is
-- said
abbrev pub Gives : {X : Type 0} → Result X CollectRefusal → X → Collected → Type 0
Gives (Ok x) value c = (c ≡ whole) × (x ≡ value)
Gives (Err (refusal.Short weight total)) value c = c ≡ short weight total
Gives (Err (refusal.Differ a b)) value c = c ≡ differ a b
Gives (Err refusal.OutOfMemory) value c = Unit {0}
