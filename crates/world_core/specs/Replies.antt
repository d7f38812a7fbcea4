-- A seat's reply to a call, against what becomes of the call in the definition (`Reached`): the member is down, stops,
-- or answers. Source: this profile.
use Rattle.std.specs.Prelude.{◌≡◌, ◌⊎◌, ℕ, Bool, true, false, List, Option, Some, None, is_some, option_map, Result, Ok, Err, if◌then◌else◌}
use Rattle.digest_core.specs.declared.Digest.{Digest}
use Rattle.quorum_core.specs.declared.signer.Signer.{Signer}
use Rattle.journal_core.specs.declared.records.Record.{Record}
use Rattle.journal_core.specs.Records as journals
use Rattle.outside.specs.Lists.{Journals, AddsRecord, KeepsJournals}
use Rattle.protocol_spec.specs.Chain.Certificates.{Rules}
use Rattle.protocol_spec.specs.declared.answers.Voted.{Voted as Sent}
use Rattle.protocol_spec.specs.declared.answers.Ran.{Ran}
use Rattle.protocol_spec.specs.declared.answers.Seen.{Seen}
use Rattle.protocol_spec.specs.declared.refusals.CloseRefusal.{CloseRefusal}
use Rattle.protocol_spec.specs.declared.refusals.CloseRefusal.TheVariants as no_close
use Rattle.protocol_spec.specs.declared.refusals.RunRefusal.{RunRefusal}
use Rattle.protocol_spec.specs.declared.refusals.RunRefusal.TheVariants as no_run
use Rattle.protocol_spec.specs.declared.refusals.SeeRefusal.{SeeRefusal}
use Rattle.protocol_spec.specs.declared.refusals.SeeRefusal.TheVariants as no_see
use Rattle.protocol_spec.specs.declared.refusals.TurnRefusal.{TurnRefusal}
use Rattle.protocol_spec.specs.declared.refusals.TurnRefusal.TheVariants as no_turn
use Rattle.protocol_spec.specs.declared.refusals.VoteRefusal.{VoteRefusal}
use Rattle.protocol_spec.specs.declared.refusals.VoteRefusal.TheVariants as no_vote
use Rattle.protocol_spec.specs.declared.refusals.HoldRefusal.{HoldRefusal}
use Rattle.protocol_spec.specs.declared.refusals.HoldRefusal.TheVariants as no_hold
use Rattle.protocol_spec.specs.Member.Member.{Member, fork_of}
use Rattle.protocol_spec.specs.Member.Calls.{close_answer, hold_answer, run_answer, see_answer, turn_answer, vote_answer}
use Rattle.world_spec.specs.World.{Reached, finds_down, stops, answers}
use Rattle.validator_core.specs.Calls.{Closes, Holds, Runs, Sees, Turns, Votes, close_ended, hold_ended, run_ended, see_ended, turn_ended, vote_ended}
use Rattle.validator_core.specs.Seats.{answered}
use Rattle.world_spec.specs.Posts.{AddsLeft, MayAddLeft}
use Rattle.world_core.specs.declared.reply.SeatFault.{SeatFault}
use Rattle.world_core.specs.declared.reply.SeatFault.TheVariants as faults
use Rattle.world_core.specs.declared.reply.Reply.{Reply}
use Rattle.world_core.specs.declared.reply.Reply.TheVariants as reply

-- the call stopped at the append of its record
pub record HasStopped (what : Reached) : Type 0 where
  pub kept : Bool
  pub due : Record
  pub is : what ≡ stops kept due

-- the call was answered, and the answer is the one that `Says` wants of the member's state before it
pub record HasAnswered {A : Type 0} (Says : Member → A → Type 0) (what : Reached) (answer : A) : Type 0 where
  pub before : Member
  pub due : Option Record
  pub is : what ≡ answers before due
  pub says : Says before answer

-- the reply of a member that is up: an answer, or none if it stopped at an armed stop
abbrev pub Met : {A : Type 0} → (Member → A → Type 0) → Reached → Option A → Type 0
Met Says what None = HasStopped what
Met Says what (Some answer) = HasAnswered Says what answer

abbrev pub Replies : {A : Type 0} → (Member → A → Type 0) → Reached → Reply A → Type 0
Replies Says what reply.Down = what ≡ finds_down
Replies Says what reply.Stopped = HasStopped what
Replies Says what (reply.Answered answer) = HasAnswered Says what answer

-- the armed stop that may cut a call; none at a member that met a fork, since it keeps no record then
abbrev pub stop_at : Member → Option Bool → Option Bool
stop_at m armed = if is_some (fork_of m) then None else armed

-- ---- the answers of a member that is up; an answer is neither a fault of the keeper nor running out of memory

abbrev pub Accepting : Type 0
Accepting = Signer → List ℕ → Digest → Bool

-- the member gives the vote that the definition gives, sealed; the records below say this of the other calls
pub record SaysVote (r : Rules) (accepts : Accepting) (m : ℕ) (bytes : List ℕ) (before : Member) (given : Result Sent VoteRefusal) : Type 0 where
  pub answer : Votes accepts m (vote_answer r before bytes) given
  pub ended : vote_ended given ≡ answered

pub record SaysHold (r : Rules) (bytes : List ℕ) (before : Member) (given : Result Bool HoldRefusal) : Type 0 where
  pub answer : Holds (hold_answer r before bytes) given
  pub ended : hold_ended given ≡ answered

pub record SaysRun (r : Rules) (before : Member) (given : Result Ran RunRefusal) : Type 0 where
  pub answer : Runs (run_answer r before) given
  pub ended : run_ended given ≡ answered

pub record SaysSee (r : Rules) (number : ℕ) (bytes : List ℕ) (before : Member) (given : Result Seen SeeRefusal) : Type 0 where
  pub answer : Sees (see_answer r before number bytes) given
  pub ended : see_ended given ≡ answered

pub record SaysClose (r : Rules) (before : Member) (given : Result Bool CloseRefusal) : Type 0 where
  pub answer : Closes (close_answer r before) given
  pub ended : close_ended given ≡ answered

pub record SaysTurn (r : Rules) (before : Member) (given : Result (List Digest) TurnRefusal) : Type 0 where
  pub answer : Turns (turn_answer r before) given
  pub ended : turn_ended given ≡ answered

-- ---- the record

-- what a call adds to observable lists: if it was completed, the record that it leaves, if any; after a fault, that
-- record or nothing
abbrev pub Leaves : {A E : Type 0} → Option Journals → Option Journals → ℕ → Option Record → Result A E → Type 0
Leaves before now m x (Ok a) = AddsLeft before now m x
Leaves before now m x (Err e) = MayAddLeft before now m x

-- what an append of these bytes adds to observable lists: the bytes if it succeeded; after a fault, the bytes or
-- nothing
abbrev pub AddsBytes : {A E : Type 0} → Option Journals → Option Journals → ℕ → List ℕ → Result A E → Type 0
AddsBytes before now m bytes (Ok a) = AddsRecord before now m bytes
AddsBytes before now m bytes (Err e) = AddsRecord before now m bytes ⊎ KeepsJournals before now

-- a stop that keeps adds these bytes, and one that loses adds nothing
abbrev pub KeptWhere : {A E : Type 0} → Bool → Option Journals → Option Journals → ℕ → List ℕ → Result A E → Type 0
KeptWhere true before now m bytes result = AddsBytes before now m bytes result
KeptWhere false before now m bytes result = KeepsJournals before now

-- ---- refusals that are not answers: the fault that each stands for

abbrev pub vote_fault : Result Sent VoteRefusal → Option SeatFault
vote_fault (Err no_vote.KeepFault) = Some faults.KeepFault
vote_fault (Err no_vote.OutOfMemory) = Some faults.OutOfMemory
vote_fault answer = None

abbrev pub hold_fault : Result Bool HoldRefusal → Option SeatFault
hold_fault (Err no_hold.KeepFault) = Some faults.KeepFault
hold_fault (Err no_hold.OutOfMemory) = Some faults.OutOfMemory
hold_fault answer = None

abbrev pub run_fault : Result Ran RunRefusal → Option SeatFault
run_fault (Err no_run.KeepFault) = Some faults.KeepFault
run_fault (Err no_run.OutOfMemory) = Some faults.OutOfMemory
run_fault answer = None

abbrev pub see_fault : Result Seen SeeRefusal → Option SeatFault
see_fault (Err no_see.KeepFault) = Some faults.KeepFault
see_fault (Err no_see.OutOfMemory) = Some faults.OutOfMemory
see_fault answer = None

abbrev pub close_fault : Result Bool CloseRefusal → Option SeatFault
close_fault (Err no_close.KeepFault) = Some faults.KeepFault
close_fault (Err no_close.OutOfMemory) = Some faults.OutOfMemory
close_fault answer = None

abbrev pub turn_fault : Result (List Digest) TurnRefusal → Option SeatFault
turn_fault (Err no_turn.KeepFault) = Some faults.KeepFault
turn_fault (Err no_turn.OutOfMemory) = Some faults.OutOfMemory
turn_fault answer = None

-- ---- records as bytes

-- the encoding of the record that a call leaves, none if it leaves none
abbrev pub spelled_due : Option Record → Option (List ℕ)
spelled_due x = option_map journals.journal_record.spell x
