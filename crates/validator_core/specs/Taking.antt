-- Which records a member may take into its state when it appends them: votes and certificates.
use Rattle.std.specs.Prelude.{◌≡◌, ◌≤◌, List, Option, None, length}
use Rattle.digest_core.specs.declared.Digest.{Digest}
use Rattle.chain_types.specs.declared.transactions.Transaction.{Transaction}
use Rattle.chain_types.specs.Digests.{consumed_keys, transaction_digest}
use Rattle.chain_types.specs.Transactions.{transaction}
use Rattle.chain_messages.specs.Messages.{certificate}
use Rattle.protocol_spec.specs.Chain.Words.{first_of}
use Rattle.journal_core.specs.declared.records.Record.{Record}
use Rattle.journal_core.specs.declared.records.Record.TheVariants as record_as
use Rattle.protocol_spec.specs.Member.Votes.{locked}
use Rattle.protocol_spec.specs.Member.Member.{Member, vote_for}
use Rattle.validator_core.specs.Answers.{MayHold}
use Rattle.validator_core.specs.Steps.{holding, voted}

-- a vote may be taken: it is the first for its transaction, and consumes no version of a vote for another
pub record MayCast (m : Member) (t : Transaction) (digest : Digest) (origins : List (Option Digest)) : Type 0 where
  pub is : digest ≡ transaction_digest t
  pub new : vote_for m digest ≡ None
  pub few : length origins ≤ 257
  pub free : first_of (locked m.votes digest) (consumed_keys t) ≡ None
  pub spelled : transaction.short t

-- the record is a vote or a certificate of the transaction of this digest, and may be taken
abbrev pub MayTake : Member → Digest → Record → Type 0
MayTake m digest (record_as.Vote t origins) = MayCast m t digest origins
MayTake m digest (record_as.Hold c) = MayHold m c digest × certificate.short c
MayTake m digest (record_as.See bytes) = ⊥
MayTake m digest record_as.Close = ⊥
MayTake m digest (record_as.Ran txs) = ⊥
MayTake m digest record_as.Turn = ⊥
MayTake m digest (record_as.Ran2 items) = ⊥

-- the state after taking it; other records are not taken here
abbrev pub taken : Member → Record → Member
taken m (record_as.Vote t origins) = voted m t origins
taken m (record_as.Hold c) = holding m c
taken m (record_as.See bytes) = m
taken m record_as.Close = m
taken m (record_as.Ran txs) = m
taken m record_as.Turn = m
taken m (record_as.Ran2 items) = m
