-- What a process answers to a request, by the answers of its member. Source: Sui Lutris; the lines are this profile's own.
use Rattle.std.specs.Prelude.{◌≡◌, ◌+◌, ℕ, Bool, List, [], ◌∷◌, length, Option, Some, None, option_map, is_some, slice_get, Result, Ok, Err, if◌then◌else◌}
use Rattle.wire_bcs.specs.declared.fault.WireFault.{WireFault}
use Rattle.digest_core.specs.declared.Digest.{Digest}
use Rattle.chain_types.specs.Digests.{transaction_digest}
use Rattle.chain_types.specs.declared.objects.Object.{Object}
use Rattle.chain_messages.specs.declared.messages.Certificate.{Certificate}
use Rattle.chain_messages.specs.declared.messages.Sealed.{Sealed}
use Rattle.chain_messages.specs.declared.messages.Statement.{Statement}
use Rattle.chain_messages.specs.declared.messages.Statement.TheVariants as statement
use Rattle.checkpoint_core.specs.declared.checkpoints.Checkpoint.{Checkpoint}
use Rattle.checkpoint_core.specs.Checkpoints.{digest_of_checkpoint}
use Rattle.effects_core.specs.declared.effects.Effects.{Effects}
use Rattle.protocol_spec.specs.declared.answers.Held.{Held}
use Rattle.protocol_spec.specs.declared.answers.Ran.{Ran}
use Rattle.protocol_spec.specs.declared.answers.Seen.{Seen}
use Rattle.protocol_spec.specs.declared.answers.Voted.{Voted as Sent}
use Rattle.protocol_spec.specs.declared.refusals.AckRefusal.{AckRefusal}
use Rattle.protocol_spec.specs.declared.refusals.AckRefusal.TheVariants as no_ack
use Rattle.protocol_spec.specs.declared.refusals.CloseRefusal.{CloseRefusal}
use Rattle.protocol_spec.specs.declared.refusals.EndRefusal.{EndRefusal}
use Rattle.protocol_spec.specs.declared.refusals.EndRefusal.TheVariants as no_end
use Rattle.protocol_spec.specs.declared.refusals.HoldRefusal.{HoldRefusal}
use Rattle.protocol_spec.specs.declared.refusals.RunRefusal.{RunRefusal}
use Rattle.protocol_spec.specs.declared.refusals.SeeRefusal.{SeeRefusal}
use Rattle.protocol_spec.specs.declared.refusals.TurnRefusal.{TurnRefusal}
use Rattle.protocol_spec.specs.declared.refusals.VoteRefusal.{VoteRefusal}
use Rattle.protocol_spec.specs.Chain.Certificates.{read_certificate}
use Rattle.protocol_spec.specs.Member.Calls.{Voted, ack_answer, called, close_answer, effects_of, end_answer, hold_answer, run_answer, see_answer, turn_answer, turns, vote_answer}
use Rattle.protocol_spec.specs.Member.Member.{Member, built, fork_of, live_objects}
use Rattle.protocol_spec.specs.Member.Versions.{execution_of, live, object_in, version_at, versions}
use Rattle.world_spec.specs.Step.{executed_digest}
use Rattle.world_spec.specs.Seats.{Seated, rules_of_seat}
use Rattle.validator_core.specs.Calls.{Acks, Ends, IsSealedBy}
use Rattle.world_core.specs.Replies.{Accepting}
use Rattle.process_lines.specs.declared.looks.Counts.{Counts}
use Rattle.process_lines.specs.declared.request.Request.{Request}
use Rattle.process_lines.specs.declared.request.Request.TheVariants as request
use Rattle.process_lines.specs.Texts.{ack_refusal_text, ack_text, checkpoint_text, close_refusal_text, closed_text, effects_text, end_refusal_text, end_text, held_text, hold_refusal_text, none_text, object_text, ran_text, run_refusal_text, see_refusal_text, seen_text, state_text, turn_refusal_text, turned_text, vote_refusal_text, voted_text}

-- ---- statements under the member's seal

-- the text is that of this statement of the member, under an accepted seal of the member
pub record IsOfSealed (accepts : Accepting) (m : ℕ) (said : Statement) (text_of : Sealed → List ℕ) (text : List ℕ) : Type 0 where
  pub sealed : Sealed
  pub statement : sealed.statement ≡ said
  pub by : IsSealedBy accepts m sealed
  pub is : text ≡ text_of sealed

abbrev pub sent_as : Bool → Sealed → Sent
sent_as fresh s = record { sealed = s; fresh = fresh }

-- the text for an answer to `vote`; below, one function for each kind of answer. A fault has no text that is written
abbrev pub vote_line : Result Sent VoteRefusal → List ℕ
vote_line (Ok v) = voted_text v
vote_line (Err refusal) = vote_refusal_text refusal

abbrev pub VoteSays : Accepting → ℕ → Result Voted VoteRefusal → List ℕ → Type 0
VoteSays accepts m (Ok v) text = IsOfSealed accepts m v.statement (λ s. voted_text (sent_as v.fresh s)) text
VoteSays accepts m (Err refusal) text = text ≡ vote_refusal_text refusal

abbrev pub end_line : Result Sealed EndRefusal → List ℕ
end_line (Ok s) = end_text s
end_line (Err refusal) = end_refusal_text refusal

-- the answer of a member that is up to `end`, which is not that it ran out of memory
pub record HearsEnd (accepts : Accepting) (m : ℕ) (said : Result Statement EndRefusal) (given : Result Sealed EndRefusal) : Type 0 where
  pub answer : Ends accepts m said given
  pub able : given ≡ Err no_end.OutOfMemory → ⊥

abbrev pub EndSays : Accepting → ℕ → Result Statement EndRefusal → List ℕ → Type 0
EndSays accepts m (Ok said) text = IsOfSealed accepts m said end_text text
EndSays accepts m (Err refusal) text = text ≡ end_refusal_text refusal

abbrev pub ack_line : Result Sealed AckRefusal → List ℕ
ack_line (Ok s) = ack_text s
ack_line (Err refusal) = ack_refusal_text refusal

pub record HearsAck (accepts : Accepting) (m : ℕ) (said : Result Statement AckRefusal) (given : Result Sealed AckRefusal) : Type 0 where
  pub answer : Acks accepts m said given
  pub able : given ≡ Err no_ack.OutOfMemory → ⊥

abbrev pub AckSays : Accepting → ℕ → Result Statement AckRefusal → List ℕ → Type 0
AckSays accepts m (Ok said) text = IsOfSealed accepts m said ack_text text
AckSays accepts m (Err refusal) text = text ≡ ack_refusal_text refusal

-- the statement that a member seals for a checkpoint that it has built
abbrev pub stated : Checkpoint → Statement
stated c = statement.Checkpoint c.epoch c.number (digest_of_checkpoint c)

abbrev pub CheckpointSays : Accepting → ℕ → Option Checkpoint → List ℕ → Type 0
CheckpointSays accepts m (Some c) text = IsOfSealed accepts m (stated c) (checkpoint_text c) text
CheckpointSays accepts m None text = text ≡ none_text

-- ---- the other answers

abbrev pub certified_in : Result Certificate WireFault → Option Digest
certified_in (Ok c) = Some (transaction_digest c.tx)
certified_in (Err fault) = None

-- the transaction of the certificate that the bytes encode
abbrev pub certified : List ℕ → Option Digest
certified bytes = certified_in (read_certificate bytes)

abbrev pub hold_line : Option Digest → Result Bool HoldRefusal → List ℕ
hold_line tx (Ok new) = held_text new tx
hold_line tx (Err refusal) = hold_refusal_text refusal

abbrev pub see_line : Result Seen SeeRefusal → List ℕ
see_line (Ok seen) = seen_text seen
see_line (Err refusal) = see_refusal_text refusal

abbrev pub run_line : Result Ran RunRefusal → List ℕ
run_line (Ok ran) = ran_text ran
run_line (Err refusal) = run_refusal_text refusal

abbrev pub close_line : Result Bool CloseRefusal → List ℕ
close_line (Ok new) = closed_text new
close_line (Err refusal) = close_refusal_text refusal

-- the text for an answer to `turn`: the epoch that begins, and what was undone
abbrev pub turn_line : ℕ → Result (List Digest) TurnRefusal → List ℕ
turn_line epoch (Ok undone) = turned_text epoch undone
turn_line epoch (Err refusal) = turn_refusal_text refusal

abbrev pub object_line : Option Object → List ℕ
object_line None = none_text
object_line (Some o) = object_text o

abbrev pub effects_line : Option Effects → List ℕ
effects_line None = none_text
effects_line (Some e) = effects_text e

-- ---- the state in numbers

-- `count`, plus how many of these held certificates are of transactions that the member has executed
abbrev pub executed_among : Member → ℕ → List Held → ℕ
executed_among m count [] = count
executed_among m count (h ∷ held) = executed_among m (if is_some (executed_digest h.digest m) then count + 1 else count) held

abbrev pub counts_of : Member → Counts
counts_of m = record {
  epoch = m.epoch;
  seen = m.sequence.number;
  held = length m.held;
  executed = executed_among m 0 m.held;
  checkpoints = length (built m);
  objects = length (live_objects m);
  halted = is_some (fork_of m);
}

-- ---- the text for any request to a member that is up

abbrev pub Says : Accepting → Seated → Request → List ℕ → Type 0
Says accepts seat (request.Vote bytes) text = VoteSays accepts seat.member (vote_answer (rules_of_seat seat accepts) seat.state bytes) text
Says accepts seat (request.Hold bytes) text = text ≡ hold_line (certified bytes) (hold_answer (rules_of_seat seat accepts) seat.state bytes)
Says accepts seat (request.See number entry) text = text ≡ see_line (see_answer (rules_of_seat seat accepts) seat.state number entry)
Says accepts seat (request.Run workers) text = text ≡ run_line (run_answer (rules_of_seat seat accepts) seat.state)
Says accepts seat request.Close text = text ≡ close_line (close_answer (rules_of_seat seat accepts) seat.state)
Says accepts seat request.End text = EndSays accepts seat.member (end_answer (rules_of_seat seat accepts) seat.state) text
Says accepts seat request.Turn text = text ≡ turn_line (called (rules_of_seat seat accepts) seat.state turns).epoch (turn_answer (rules_of_seat seat accepts) seat.state)
Says accepts seat (request.Ack tx) text = AckSays accepts seat.member (ack_answer (rules_of_seat seat accepts) seat.state tx) text
Says accepts seat (request.Checkpoint number) text = CheckpointSays accepts seat.member (slice_get (built seat.state) number) text
Says accepts seat (request.Object id) text = text ≡ object_line (live seat.state.opening seat.state.executed (record { 0 = id }))
Says accepts seat (request.Version id version) text = text ≡ object_line (option_map object_in (version_at (versions seat.state.opening seat.state.executed) (record { id = record { 0 = id }; version = version })))
Says accepts seat (request.Effects tx) text = text ≡ effects_line (option_map effects_of (execution_of seat.state.executed tx))
Says accepts seat request.State text = text ≡ state_text (counts_of seat.state)
