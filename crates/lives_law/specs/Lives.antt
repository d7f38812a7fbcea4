-- The lives of a member over one list of records, and what is not taken back in them. Source: this profile.
use Rattle.std.specs.Prelude.{◌≡◌, ◌⊎◌, ◌<◌, ℕ, Bool, List, [], ◌∷◌, ◌++◌, length, Some, Ok, Option}
use Rattle.digest_core.specs.declared.Digest.{Digest}
use Rattle.chain_types.specs.declared.objects.Object.{Object}
use Rattle.chain_types.specs.declared.objects.ObjectKey.{ObjectKey}
use Rattle.chain_types.specs.declared.transactions.Transaction.{Transaction}
use Rattle.chain_types.specs.Digests.{transaction_digest, consumed_keys}
use Rattle.chain_messages.specs.declared.messages.Statement.TheVariants as statement
use Rattle.journal_core.specs.declared.records.Record.{Record}
use Rattle.journal_core.specs.declared.records.Record.TheVariants as record_as
use Rattle.protocol_spec.specs.Chain.Words.{Has, IsFront}
use Rattle.protocol_spec.specs.Chain.Certificates.{Rules}
use Rattle.protocol_spec.specs.Member.Member.{Member, state}
use Rattle.protocol_spec.specs.Member.Calls.{Call, votes, ends, acks, vote_answer, end_answer, ack_answer, due}
use Rattle.protocol_spec.specs.Member.Replay.{replayed}
use Rattle.world_spec.specs.World.{appended}

-- ---- lives

-- a life: the records in the file when it starts, the calls of which it wrote an answer, whole or in part, and the
-- records in the file that the next life finds
pub record Life : Type 0 where
  pub start : List Record
  pub calls : List Call
  pub last : List Record

-- a call of which an answer was written, and the records before it
pub record Answered : Type 0 where
  pub before : List Record
  pub call : Call

abbrev pub answered_at : List Record → Call → Answered
answered_at before call = record { before = before; call = call }

-- a life that answered no call and left the records as they were
pub record IsUnlived (life : Life) : Type 0 where
  pub calls : life.calls ≡ []
  pub last : life.last ≡ life.start

-- the records that the last of these lives leaves
abbrev pub last_records : List Record → List Life → List Record
last_records records [] = records
last_records records (life ∷ lives) = last_records life.last lives

-- ---- what stands in a file

-- among the records is one of a vote with these origins, for a transaction of this epoch and digest
pub record IsKeptVote (records : List Record) (epoch : ℕ) (tx : Digest) (origins : List (Option Digest)) : Type 0 where
  pub transaction : Transaction
  pub stands : Has records (record_as.Vote transaction origins)
  pub epoch_is : transaction.epoch ≡ epoch
  pub digest_is : transaction_digest transaction ≡ tx

-- two votes of one epoch stand there: those for different digests are of transactions that consume no common version,
-- and those for one digest name the same origins
pub record AreTwoVotes (records : List Record) (epoch : ℕ) (tx ux : Digest) (origins others : List (Option Digest)) : Type 0 where
  pub first : IsKeptVote records epoch tx origins
  pub second : IsKeptVote records epoch ux others
  pub apart : (tx ≡ ux → ⊥) → (key : ObjectKey) → Has (consumed_keys first.transaction) key → Has (consumed_keys second.transaction) key → ⊥
  pub same : tx ≡ ux → origins ≡ others

-- a record that binds a member in this epoch: a vote, or a certificate that it was handed
abbrev pub Binds : ℕ → Record → Type 0
Binds epoch (record_as.Vote t origins) = t.epoch ≡ epoch
Binds epoch (record_as.Hold c) = c.tx.epoch ≡ epoch
Binds epoch (record_as.See bytes) = ⊥
Binds epoch record_as.Close = ⊥
Binds epoch (record_as.Ran txs) = ⊥
Binds epoch record_as.Turn = ⊥
Binds epoch (record_as.Ran2 items) = ⊥

-- ---- the calls of a life

module _ (r : Rules) (opening : List Object) where
  -- the records after a call
  abbrev pub records_behind : List Record → Call → List Record
  records_behind before call = appended before (due r (state r opening before) call)

  -- the records after these calls, one after the other
  abbrev pub records_after : List Record → List Call → List Record
  records_after before [] = before
  records_after before (call ∷ calls) = records_after (records_behind before call) calls

  abbrev pub answered_from : List Record → List Call → List Answered
  answered_from before [] = []
  answered_from before (call ∷ calls) = answered_at before call ∷ answered_from (records_behind before call) calls

  abbrev pub all_answered : List Life → List Answered
  all_answered [] = []
  all_answered (life ∷ lives) = answered_from life.start life.calls ++ all_answered lives

  -- the member started from its records; the file has them after it, then those of its calls, and perhaps more: the
  -- record of a call that a fault or a crash cut before its answer, or whatever else. A start refuses a file with a record
  -- that no call would append
  pub record IsLived (life : Life) : Type 0 where
    pub member : Member
    pub starts : replayed r opening life.start ≡ Ok member
    pub leaves : IsFront (records_after life.start life.calls) life.last

  -- lives one after the other, of which the first finds these records, and each the records that the one before it left
  abbrev pub AreLives : List Record → List Life → Type 0
  AreLives records [] = Unit {0}
  AreLives records (life ∷ lives) = (life.start ≡ records) × (IsLived life ⊎ IsUnlived life) × AreLives life.last lives

  -- ---- what was answered

  abbrev pub member_at : Answered → Member
  member_at a = state r opening a.before

  -- the answer is this vote, new or given again
  pub record IsVote (a : Answered) (epoch : ℕ) (tx : Digest) (origins : List (Option Digest)) : Type 0 where
    pub bytes : List ℕ
    pub fresh : Bool
    pub call : a.call ≡ votes bytes
    pub says : vote_answer r (member_at a) bytes ≡ Ok (record { statement = statement.Vote epoch tx origins; fresh = fresh })

  -- the answer is the End of this epoch
  pub record IsEnd (a : Answered) (epoch : ℕ) : Type 0 where
    pub call : a.call ≡ ends
    pub says : end_answer r (member_at a) ≡ Ok (statement.End epoch)

  -- the answer acknowledges these effects
  pub record IsAck (a : Answered) (epoch : ℕ) (tx effects : Digest) : Type 0 where
    pub call : a.call ≡ acks tx
    pub says : ack_answer r (member_at a) tx ≡ Ok (statement.Ack epoch tx effects)

  -- ---- what is not taken back

  -- over all answers of these lives: what stands in the last file, and what no answer contradicts
  pub record NothingIsTakenBack (lives : List Life) (last : List Record) : Type 0 where
    pub votes : (a b : Answered) → Has (all_answered lives) a → Has (all_answered lives) b
        → (epoch : ℕ) (tx ux : Digest) (origins others : List (Option Digest)) → IsVote a epoch tx origins → IsVote b epoch ux others
        → AreTwoVotes last epoch tx ux origins others
    -- a vote of an epoch, or a certificate of it that the member was handed, is kept only before the End of that epoch is given
    pub ends : (a b : Answered) → Has (all_answered lives) a → Has (all_answered lives) b
        → (epoch : ℕ) → IsEnd a epoch → (x : Record) → due r (member_at b) b.call ≡ Some x → Binds epoch x → length b.before < length a.before
    pub acks : (a b : Answered) → Has (all_answered lives) a → Has (all_answered lives) b
        → (epoch : ℕ) (tx effects others : Digest) → IsAck a epoch tx effects → IsAck b epoch tx others → effects ≡ others

-- ---- the law

abbrev pub LivesLaw : Type 0
LivesLaw = (r : Rules) (opening : List Object) (records : List Record) (lives : List Life) → AreLives r opening records lives
    → NothingIsTakenBack r opening lives (last_records records lives)
