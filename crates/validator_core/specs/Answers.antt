-- How the answers of a member's state in code relate to the definition's; an answer that is out of memory is not
-- related.
use Rattle.std.specs.Prelude.{◌≡◌, ℕ, Bool, true, false, not, List, [], ◌∷◌, Option, Some, None, Result, Ok, Err, is_some, length, ◌≤◌, if◌then◌else◌}
use Rattle.digest_core.specs.declared.Digest.{Digest}
use Rattle.quorum_core.specs.declared.signer.Signer.{Signer}
use Rattle.chain_types.specs.declared.transactions.Transaction.{Transaction}
use Rattle.chain_messages.specs.declared.messages.Statement.TheVariants as statement
use Rattle.chain_types.specs.Digests.{consumed_keys, transaction_digest}
use Rattle.chain_messages.specs.declared.messages.Certificate.{Certificate}
use Rattle.protocol_spec.specs.Chain.Certificates.{Rules}
use Rattle.protocol_spec.specs.Chain.Shape.{shape_fault}
use Rattle.journal_core.specs.declared.records.Record.{Record}
use Rattle.journal_core.specs.declared.records.Record.TheVariants as record_as
use Rattle.protocol_spec.specs.Member.Checkpoints.{held_of}
use Rattle.protocol_spec.specs.Chain.Words.{first_of, first_some, where_true}
use Rattle.protocol_spec.specs.declared.refusals.VoteRefusal.{VoteRefusal}
use Rattle.protocol_spec.specs.declared.refusals.VoteRefusal.TheVariants as no_vote
use Rattle.protocol_spec.specs.declared.refusals.HoldRefusal.{HoldRefusal}
use Rattle.protocol_spec.specs.declared.refusals.HoldRefusal.TheVariants as no_hold
use Rattle.protocol_spec.specs.Member.Votes.{locked}
use Rattle.protocol_spec.specs.Member.Member.{Member, vote_for}
use Rattle.protocol_spec.specs.declared.refusals.RunRefusal.{RunRefusal}
use Rattle.protocol_spec.specs.declared.refusals.RunRefusal.TheVariants as no_run
use Rattle.protocol_spec.specs.declared.refusals.CloseRefusal.{CloseRefusal}
use Rattle.protocol_spec.specs.declared.refusals.CloseRefusal.TheVariants as no_close
use Rattle.protocol_spec.specs.Member.Calls.{Voted, full, halted}
use Rattle.validator_core.specs.declared.votes.DecidedVote.{DecidedVote}
use Rattle.validator_core.specs.declared.holds.CertificateOutcome.{CertificateOutcome}
use Rattle.validator_core.specs.declared.holds.CertificateOutcome.TheVariants as holding
use Rattle.world_spec.specs.Terms.{Terms, rules_for}

-- terms of an empty committee, for calls in which the terms play no part
abbrev pub no_terms : Terms
no_terms = record { stakes = []; writers = None }

-- rules that accept these seals, for calls in which the terms play no part
abbrev pub sealed_as : (Signer → List ℕ → Digest → Bool) → Rules
sealed_as accepts = rules_for no_terms accepts

-- ---- votes

-- the refusal of a vote if the sender's seal is not accepted
abbrev pub unsealed_where : Bool → Option VoteRefusal
unsealed_where sealed = where_true (not sealed) no_vote.Unsealed

-- the vote that a decision gives
abbrev pub vote_as : ℕ → DecidedVote → Voted
vote_as epoch d = record { statement = statement.Vote epoch d.digest d.origins; fresh = d.fresh }

abbrev pub VotesAs : ℕ → Result Voted VoteRefusal → Result DecidedVote VoteRefusal → Type 0
VotesAs epoch said (Ok d) = said ≡ Ok (vote_as epoch d)
VotesAs epoch said (Err no_vote.OutOfMemory) = Unit {0}
VotesAs epoch said (Err refusal) = said ≡ Err refusal

-- only the decision, out of the code's triple of transaction, decision and encoded transaction
abbrev pub decision_in : {B : Type 0} → Result (Transaction × DecidedVote × B) VoteRefusal → Result DecidedVote VoteRefusal
decision_in (Ok v) = Ok v.1
decision_in (Err refusal) = Err refusal

-- the answer is the vote that was given before, with these origins
abbrev pub Repeats : Digest → List (Option Digest) → Result DecidedVote VoteRefusal → Type 0
Repeats digest origins (Ok d) = d ≡ record { digest = digest; origins = origins; fresh = false }
Repeats digest origins (Err no_vote.OutOfMemory) = Unit {0}
Repeats digest origins (Err refusal) = ⊥

-- the record that is due for a vote: that of a fresh one
abbrev pub VoteDue : {B : Type 0} → Option Record → Result (Transaction × DecidedVote × B) VoteRefusal → Type 0
VoteDue due (Ok v) = due ≡ (if v.1.fresh then Some (record_as.Vote v.0 v.1.origins) else None)
VoteDue due (Err no_vote.OutOfMemory) = Unit {0}
VoteDue due (Err refusal) = due ≡ None

-- what makes a decision safe to keep: the digest is the transaction's, and a fresh vote is the first for it and
-- consumes no version of a vote for another
pub record IsFree (m : Member) (t : Transaction) (d : DecidedVote) : Type 0 where
  pub digest : d.digest ≡ transaction_digest t
  pub new : d.fresh ≡ true → vote_for m d.digest ≡ None
  pub few : length d.origins ≤ 257
  pub free : d.fresh ≡ true → first_of (locked m.votes d.digest) (consumed_keys t) ≡ None

-- ---- certificates

abbrev pub HoldsAs : Result Bool HoldRefusal → Result CertificateOutcome HoldRefusal → Type 0
HoldsAs said (Ok holding.Again) = said ≡ Ok false
HoldsAs said (Ok (holding.New digest)) = said ≡ Ok true
HoldsAs said (Ok (holding.Fork key first digest)) = said ≡ Err (no_hold.Fork key first digest)
HoldsAs said (Err no_hold.OutOfMemory) = Unit {0}
HoldsAs said (Err (no_hold.Fork key first second)) = ⊥
HoldsAs said (Err refusal) = said ≡ Err refusal

-- only the `CertificateOutcome`, out of the code's pair with the certificate
abbrev pub holding_in : Result (Certificate × CertificateOutcome) HoldRefusal → Result CertificateOutcome HoldRefusal
holding_in (Ok h) = Ok h.1
holding_in (Err refusal) = Err refusal

-- the record that is due for a certificate: it is kept if it is new, or the evidence of a fork
abbrev pub HoldDue : Option Record → Result (Certificate × CertificateOutcome) HoldRefusal → Type 0
HoldDue due (Ok (c, holding.Again)) = due ≡ None
HoldDue due (Ok (c, holding.New digest)) = due ≡ Some (record_as.Hold c)
HoldDue due (Ok (c, holding.Fork key first digest)) = due ≡ Some (record_as.Hold c)
HoldDue due (Err no_hold.OutOfMemory) = Unit {0}
HoldDue due (Err (no_hold.Fork key first second)) = ⊥
HoldDue due (Err refusal) = due ≡ None

-- a certificate may be held under this digest: the digest is its transaction's, the shape is valid, and none is held
pub record MayHold (m : Member) (c : Certificate) (digest : Digest) : Type 0 where
  pub is : digest ≡ transaction_digest c.tx
  pub shape : shape_fault c.tx ≡ None
  pub new : is_some (held_of m.held digest) ≡ false

-- a certificate that is to be kept, as new or as the evidence of a fork, may be held
abbrev pub IsHeldAs : Member → Certificate → CertificateOutcome → Type 0
IsHeldAs m c holding.Again = Unit {0}
IsHeldAs m c (holding.New digest) = MayHold m c digest
IsHeldAs m c (holding.Fork key first digest) = MayHold m c digest

-- ---- runs and closes

-- why a run, or a close, is refused before it begins
abbrev pub run_stopped : Member → Option RunRefusal
run_stopped m = first_some (halted no_run.Halted m ∷ full no_run.Full m ∷ [])

abbrev pub close_stopped : Member → Option CloseRefusal
close_stopped m = first_some (halted no_close.Halted m ∷ full no_close.Full m ∷ [])

-- ---- records that are taken back

-- rules of an empty committee that accepts no seal, for calls in which the rules play no part
abbrev pub bare : Rules
bare = rules_for no_terms (λ by bytes seal. false)

-- the fact, if the record that was read back was taken
abbrev pub OnTaken : {E : Type 0} → Result Bool E → Type 0 → Type 0
OnTaken (Ok true) holds = holds
OnTaken (Ok false) holds = Unit {0}
OnTaken (Err e) holds = Unit {0}
