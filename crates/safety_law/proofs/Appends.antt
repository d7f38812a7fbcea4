-- Which record a call appends.
use Rattle.std.proofs.Common.{ap}
use Rattle.std.specs.Prelude.{◌≡◌, ℕ, Bool, true, false, cond, List, [], ◌∷◌, Option, Some, None, Result, Ok, Err}
use Rattle.wire_bcs.specs.declared.fault.WireFault.{WireFault}
use Rattle.digest_core.specs.declared.Digest.{Digest}
use Rattle.chain_types.specs.declared.transactions.Transaction.{Transaction}
use Rattle.chain_types.specs.declared.transactions.SignedTx.{SignedTx}
use Rattle.chain_messages.specs.declared.messages.Certificate.{Certificate}
use Rattle.chain_messages.specs.declared.messages.Statement.{Statement}
use Rattle.chain_messages.specs.declared.messages.Statement.TheVariants as statement
use Rattle.journal_core.specs.declared.records.RanItem.{RanItem}
use Rattle.journal_core.specs.declared.records.Record.{Record}
use Rattle.journal_core.specs.declared.records.Record.TheVariants as record_as
use Rattle.protocol_spec.specs.declared.answers.Ran.{Ran}
use Rattle.protocol_spec.specs.declared.refusals.VoteRefusal.{VoteRefusal}
use Rattle.protocol_spec.specs.declared.refusals.HoldRefusal.{HoldRefusal}
use Rattle.protocol_spec.specs.declared.refusals.SeeRefusal.{SeeRefusal}
use Rattle.protocol_spec.specs.declared.refusals.RunRefusal.{RunRefusal}
use Rattle.protocol_spec.specs.declared.refusals.CloseRefusal.{CloseRefusal}
use Rattle.protocol_spec.specs.declared.refusals.TurnRefusal.{TurnRefusal}
use Rattle.protocol_spec.specs.Chain.Words.{first_some, where_true}
use Rattle.protocol_spec.specs.Chain.Certificates.{Rules, read_signed, read_certificate}
use Rattle.protocol_spec.specs.Member.Member.{Member}
use Rattle.protocol_spec.specs.Member.Calls.{Call, votes, holds, sees, runs, closes, ends, turns, acks, Voted, see_cases, kept_vote, vote_record, is_hold_kept, hold_record, see_record, ran_items, ran_record, run_record, close_record, turn_record, vote_answer, hold_answer, run_answer, close_answer, turn_answer, due}

pub data Appended : Type 0 where
  a_vote : Appended
  a_hold : Appended
  a_see : Appended
  a_close : Appended
  a_run : Appended
  a_turn : Appended

abbrev pub appended_as : Record → Appended
appended_as (record_as.Vote tx origins) = a_vote
appended_as (record_as.Hold c) = a_hold
appended_as (record_as.See bytes) = a_see
appended_as record_as.Close = a_close
appended_as (record_as.Ran txs) = a_run
appended_as record_as.Turn = a_turn
appended_as (record_as.Ran2 items) = a_run

abbrev pub appended_by : Call → Option Appended
appended_by (votes bytes) = Some a_vote
appended_by (holds bytes) = Some a_hold
appended_by (sees number bytes) = Some a_see
appended_by runs = Some a_run
appended_by closes = Some a_close
appended_by ends = None
appended_by turns = Some a_turn
appended_by (acks tx) = None

module _ (x : Record) where
  -- what the record is, if it is this one
  is : (y : Record) → Some y ≡ Some x → Some (appended_as y) ≡ Some (appended_as x)
  is y e = ap (λ (z : Record). Some (appended_as z)) (same e)
    where
      same : Some y ≡ Some x → y ≡ x
      same e = cc

  kept-is : (t : Transaction) (st : Statement) → kept_vote t st ≡ Some x → Some a_vote ≡ Some (appended_as x)
  kept-is t (statement.Vote epoch tx origins) e = is (record_as.Vote t origins) e
  kept-is t (statement.End epoch) e = absurd (cc)
  kept-is t (statement.Checkpoint epoch number digest) e = absurd (cc)
  kept-is t (statement.Ack epoch tx effects) e = absurd (cc)

  vote-is : (read : Result SignedTx WireFault) (answer : Result Voted VoteRefusal) → vote_record read answer ≡ Some x → Some a_vote ≡ Some (appended_as x)
  vote-is (Err fault) answer e = absurd (cc)
  vote-is (Ok s) (Err refusal) e = absurd (cc)
  vote-is (Ok s) (Ok v) e = go v.fresh e
    where
      go : (b : Bool) → cond b (kept_vote s.tx v.statement) None ≡ Some x → Some a_vote ≡ Some (appended_as x)
      go true e = kept-is s.tx v.statement e
      go false e = absurd (cc)

  where-is : (b : Bool) (y : Record) → where_true b y ≡ Some x → Some (appended_as y) ≡ Some (appended_as x)
  where-is true y e = is y e
  where-is false y e = absurd (cc)

  hold-is : (read : Result Certificate WireFault) (answer : Result Bool HoldRefusal) → hold_record read answer ≡ Some x → Some a_hold ≡ Some (appended_as x)
  hold-is (Err fault) answer e = absurd (cc)
  hold-is (Ok c) answer e = where-is (is_hold_kept answer) (record_as.Hold c) e

  see-is : (m : Member) (number : ℕ) (bytes : List ℕ) (refusal : Option SeeRefusal) → see_record m number bytes refusal ≡ Some x → Some a_see ≡ Some (appended_as x)
  see-is m number bytes None e = is (record_as.See bytes) e
  see-is m number bytes (Some refusal) e = absurd (cc)

  ran-is : (items : List RanItem) → ran_record items ≡ Some x → Some a_run ≡ Some (appended_as x)
  ran-is [] e = absurd (cc)
  ran-is (item ∷ items) e = is (record_as.Ran2 (item ∷ items)) e

  run-is : (m : Member) (answer : Result Ran RunRefusal) → run_record m answer ≡ Some x → Some a_run ≡ Some (appended_as x)
  run-is m (Err refusal) e = absurd (cc)
  run-is m (Ok ran) e = ran-is (ran_items m) e

  close-is : (answer : Result Bool CloseRefusal) → close_record answer ≡ Some x → Some a_close ≡ Some (appended_as x)
  close-is (Err refusal) e = absurd (cc)
  close-is (Ok new) e = where-is new record_as.Close e

  turn-is : (answer : Result (List Digest) TurnRefusal) → turn_record answer ≡ Some x → Some a_turn ≡ Some (appended_as x)
  turn-is (Err refusal) e = absurd (cc)
  turn-is (Ok txs) e = is record_as.Turn e

  pub due-appends : (r : Rules) (m : Member) (call : Call) → due r m call ≡ Some x → appended_by call ≡ Some (appended_as x)
  unfolding due
  due-appends r m (votes bytes) e = vote-is (read_signed bytes) (vote_answer r m bytes) e
  due-appends r m (holds bytes) e = hold-is (read_certificate bytes) (hold_answer r m bytes) e
  due-appends r m (sees number bytes) e = see-is m number bytes (first_some (see_cases m number)) e
  due-appends r m runs e = run-is m (run_answer r m) e
  due-appends r m closes e = close-is (close_answer r m) e
  due-appends r m ends e = absurd (cc)
  due-appends r m turns e = turn-is (turn_answer r m) e
  due-appends r m (acks tx) e = absurd (cc)
