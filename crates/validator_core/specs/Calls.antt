-- How a member's answers relate to the definition's, call by call. For `vote`: `vote_said` is the definition's answer,
-- `Down` if the member is down; `Votes` relates the code's answer to it, but for `OutOfMemory` and `KeepFault`;
-- `unkept_vote` is the answer if the record was not kept; `vote_ended` says whether the member is down after it. So
-- for the other calls.
use Rattle.std.specs.Prelude.{◌≡◌, ℕ, Bool, true, List, [], Option, Result, Ok, Err, is_ok, if◌then◌else◌}
use Rattle.digest_core.specs.declared.Digest.{Digest}
use Rattle.quorum_core.specs.declared.signer.Signer.{Signer}
use Rattle.quorum_core.specs.declared.signer.Signer.TheVariants as signers
use Rattle.chain_messages.specs.declared.messages.Sealed.{Sealed}
use Rattle.chain_messages.specs.declared.messages.Statement.{Statement}
use Rattle.chain_messages.specs.declared.messages.Statement.TheVariants as statement
use Rattle.chain_messages.specs.Messages as messages
use Rattle.protocol_spec.specs.Chain.Certificates.{Rules}
use Rattle.protocol_spec.specs.declared.answers.Voted.{Voted as Sent}
use Rattle.protocol_spec.specs.declared.refusals.VoteRefusal.{VoteRefusal}
use Rattle.protocol_spec.specs.declared.refusals.VoteRefusal.TheVariants as no_vote
use Rattle.protocol_spec.specs.declared.refusals.HoldRefusal.{HoldRefusal}
use Rattle.protocol_spec.specs.declared.refusals.HoldRefusal.TheVariants as no_hold
use Rattle.protocol_spec.specs.declared.answers.Ran.{Ran}
use Rattle.protocol_spec.specs.declared.refusals.RunRefusal.{RunRefusal}
use Rattle.protocol_spec.specs.declared.refusals.RunRefusal.TheVariants as no_run
use Rattle.protocol_spec.specs.declared.refusals.CloseRefusal.{CloseRefusal}
use Rattle.protocol_spec.specs.declared.refusals.CloseRefusal.TheVariants as no_close
use Rattle.protocol_spec.specs.declared.refusals.AckRefusal.{AckRefusal}
use Rattle.protocol_spec.specs.declared.refusals.AckRefusal.TheVariants as no_ack
use Rattle.protocol_spec.specs.declared.refusals.EndRefusal.{EndRefusal}
use Rattle.protocol_spec.specs.declared.refusals.EndRefusal.TheVariants as no_end
use Rattle.protocol_spec.specs.declared.refusals.TurnRefusal.{TurnRefusal}
use Rattle.protocol_spec.specs.declared.refusals.TurnRefusal.TheVariants as no_turn
use Rattle.protocol_spec.specs.declared.answers.Seen.{Seen}
use Rattle.protocol_spec.specs.declared.refusals.SeeRefusal.{SeeRefusal}
use Rattle.protocol_spec.specs.declared.refusals.SeeRefusal.TheVariants as no_see
use Rattle.protocol_spec.specs.Member.Calls.{Voted, ack_answer, close_answer, end_answer, hold_answer, run_answer, see_answer, turn_answer, vote_answer}
use Rattle.validator_core.specs.declared.keeping.JournalFault.{JournalFault}
use Rattle.validator_core.specs.declared.keeping.JournalFault.TheVariants as unkept
use Rattle.validator_core.specs.Seats.{Ended, answered, fell}
use Rattle.world_spec.specs.Seats.{Seated}

-- ---- vote

abbrev pub vote_said : Rules → Seated → List ℕ → Result Voted VoteRefusal
vote_said r seat bytes = if seat.up then vote_answer r seat.state bytes else Err no_vote.Down

-- the member's seal on the statement is accepted
pub record IsSealedBy (accepts : Signer → List ℕ → Digest → Bool) (member : ℕ) (s : Sealed) : Type 0 where
  pub by : s.member ≡ member
  pub accepted : accepts (signers.Member member) (messages.statement.spell s.statement) s.seal ≡ true

-- the origins that a vote's statement names
abbrev pub origins_in : Statement → List (Option Digest)
origins_in (statement.Vote epoch tx origins) = origins
origins_in (statement.End epoch) = []
origins_in (statement.Checkpoint epoch number digest) = []
origins_in (statement.Ack epoch tx effects) = []

abbrev pub Votes : (Signer → List ℕ → Digest → Bool) → ℕ → Result Voted VoteRefusal → Result Sent VoteRefusal → Type 0
Votes accepts member said (Ok v) = (said ≡ Ok (record { statement = v.sealed.statement; fresh = v.fresh })) × IsSealedBy accepts member v.sealed
Votes accepts member said (Err no_vote.OutOfMemory) = Unit {0}
Votes accepts member said (Err no_vote.KeepFault) = Unit {0}
Votes accepts member said (Err refusal) = said ≡ Err refusal

abbrev pub unkept_vote : JournalFault → VoteRefusal
unkept_vote unkept.KeepFault = no_vote.KeepFault
unkept_vote unkept.OutOfMemory = no_vote.OutOfMemory

abbrev pub vote_ended : Result Sent VoteRefusal → Ended
vote_ended (Ok v) = answered
vote_ended (Err no_vote.OutOfMemory) = fell
vote_ended (Err no_vote.KeepFault) = fell
vote_ended (Err refusal) = answered

-- ---- hold

abbrev pub hold_said : Rules → Seated → List ℕ → Result Bool HoldRefusal
hold_said r seat bytes = if seat.up then hold_answer r seat.state bytes else Err no_hold.Down

abbrev pub Holds : Result Bool HoldRefusal → Result Bool HoldRefusal → Type 0
Holds said (Ok new) = said ≡ Ok new
Holds said (Err no_hold.OutOfMemory) = Unit {0}
Holds said (Err no_hold.KeepFault) = Unit {0}
Holds said (Err refusal) = said ≡ Err refusal

abbrev pub unkept_hold : JournalFault → HoldRefusal
unkept_hold unkept.KeepFault = no_hold.KeepFault
unkept_hold unkept.OutOfMemory = no_hold.OutOfMemory

abbrev pub hold_ended : Result Bool HoldRefusal → Ended
hold_ended (Ok new) = answered
hold_ended (Err no_hold.OutOfMemory) = fell
hold_ended (Err no_hold.KeepFault) = fell
hold_ended (Err refusal) = answered

-- ---- see

abbrev pub see_said : Rules → Seated → ℕ → List ℕ → Result Seen SeeRefusal
see_said r seat number bytes = if seat.up then see_answer r seat.state number bytes else Err no_see.Down

abbrev pub Sees : Result Seen SeeRefusal → Result Seen SeeRefusal → Type 0
Sees said (Ok seen) = said ≡ Ok seen
Sees said (Err no_see.OutOfMemory) = Unit {0}
Sees said (Err no_see.KeepFault) = Unit {0}
Sees said (Err refusal) = said ≡ Err refusal

abbrev pub unkept_see : JournalFault → SeeRefusal
unkept_see unkept.KeepFault = no_see.KeepFault
unkept_see unkept.OutOfMemory = no_see.OutOfMemory

abbrev pub see_ended : Result Seen SeeRefusal → Ended
see_ended (Ok seen) = answered
see_ended (Err no_see.OutOfMemory) = fell
see_ended (Err no_see.KeepFault) = fell
see_ended (Err refusal) = answered

-- ---- run

abbrev pub run_said : Rules → Seated → Result Ran RunRefusal
run_said r seat = if seat.up then run_answer r seat.state else Err no_run.Down

abbrev pub Runs : Result Ran RunRefusal → Result Ran RunRefusal → Type 0
Runs said (Ok ran) = said ≡ Ok ran
Runs said (Err no_run.OutOfMemory) = Unit {0}
Runs said (Err no_run.KeepFault) = Unit {0}
Runs said (Err refusal) = said ≡ Err refusal

abbrev pub unkept_run : JournalFault → RunRefusal
unkept_run unkept.KeepFault = no_run.KeepFault
unkept_run unkept.OutOfMemory = no_run.OutOfMemory

abbrev pub run_ended : Result Ran RunRefusal → Ended
run_ended (Ok ran) = answered
run_ended (Err no_run.OutOfMemory) = fell
run_ended (Err no_run.KeepFault) = fell
run_ended (Err refusal) = answered

-- ---- close

abbrev pub close_said : Rules → Seated → Result Bool CloseRefusal
close_said r seat = if seat.up then close_answer r seat.state else Err no_close.Down

abbrev pub Closes : Result Bool CloseRefusal → Result Bool CloseRefusal → Type 0
Closes said (Ok new) = said ≡ Ok new
Closes said (Err no_close.OutOfMemory) = Unit {0}
Closes said (Err no_close.KeepFault) = Unit {0}
Closes said (Err refusal) = said ≡ Err refusal

abbrev pub unkept_close : JournalFault → CloseRefusal
unkept_close unkept.KeepFault = no_close.KeepFault
unkept_close unkept.OutOfMemory = no_close.OutOfMemory

abbrev pub close_ended : Result Bool CloseRefusal → Ended
close_ended (Ok new) = answered
close_ended (Err no_close.OutOfMemory) = fell
close_ended (Err no_close.KeepFault) = fell
close_ended (Err refusal) = answered

-- ---- ack

abbrev pub ack_said : Rules → Seated → Digest → Result Statement AckRefusal
ack_said r seat tx = if seat.up then ack_answer r seat.state tx else Err no_ack.Down

-- the acknowledgement under the member's seal; memory is needed only if there is one
abbrev pub Acks : (Signer → List ℕ → Digest → Bool) → ℕ → Result Statement AckRefusal → Result Sealed AckRefusal → Type 0
Acks accepts member said (Ok s) = (said ≡ Ok s.statement) × IsSealedBy accepts member s
Acks accepts member said (Err no_ack.OutOfMemory) = is_ok said ≡ true
Acks accepts member said (Err refusal) = said ≡ Err refusal

-- ---- end

abbrev pub end_said : Rules → Seated → Result Statement EndRefusal
end_said r seat = if seat.up then end_answer r seat.state else Err no_end.Down

-- the End under the member's seal; memory is needed only if there is one
abbrev pub Ends : (Signer → List ℕ → Digest → Bool) → ℕ → Result Statement EndRefusal → Result Sealed EndRefusal → Type 0
Ends accepts member said (Ok s) = (said ≡ Ok s.statement) × IsSealedBy accepts member s
Ends accepts member said (Err no_end.OutOfMemory) = is_ok said ≡ true
Ends accepts member said (Err refusal) = said ≡ Err refusal

-- ---- turn

abbrev pub turn_said : Rules → Seated → Result (List Digest) TurnRefusal
turn_said r seat = if seat.up then turn_answer r seat.state else Err no_turn.Down

abbrev pub Turns : Result (List Digest) TurnRefusal → Result (List Digest) TurnRefusal → Type 0
Turns said (Ok txs) = said ≡ Ok txs
Turns said (Err no_turn.OutOfMemory) = Unit {0}
Turns said (Err no_turn.KeepFault) = Unit {0}
Turns said (Err refusal) = said ≡ Err refusal

abbrev pub unkept_turn : JournalFault → TurnRefusal
unkept_turn unkept.KeepFault = no_turn.KeepFault
unkept_turn unkept.OutOfMemory = no_turn.OutOfMemory

abbrev pub turn_ended : Result (List Digest) TurnRefusal → Ended
turn_ended (Ok txs) = answered
turn_ended (Err no_turn.OutOfMemory) = fell
turn_ended (Err no_turn.KeepFault) = fell
turn_ended (Err refusal) = answered
