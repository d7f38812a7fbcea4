-- What a member answers is what a process says.
use Rattle.std.proofs.Common.{◌≡◌, ℕ, Bool, List, Option, refl, sym, ap, ◌∙◌, subst}
use Rattle.std.specs.Prelude.{Result, Ok, Err}
use Rattle.digest_core.specs.declared.Digest.{Digest}
use Rattle.chain_messages.specs.declared.messages.Sealed.{Sealed}
use Rattle.chain_messages.specs.declared.messages.Statement.{Statement}
use Rattle.protocol_spec.specs.declared.answers.Ran.{Ran}
use Rattle.protocol_spec.specs.declared.answers.Seen.{Seen}
use Rattle.protocol_spec.specs.declared.answers.Voted.{Voted as Sent}
use Rattle.protocol_spec.specs.declared.refusals.AckRefusal.{AckRefusal}
use Rattle.protocol_spec.specs.declared.refusals.AckRefusal.TheVariants as no_ack
use Rattle.protocol_spec.specs.declared.refusals.CloseRefusal.{CloseRefusal}
use Rattle.protocol_spec.specs.declared.refusals.CloseRefusal.TheVariants as no_close
use Rattle.protocol_spec.specs.declared.refusals.EndRefusal.{EndRefusal}
use Rattle.protocol_spec.specs.declared.refusals.EndRefusal.TheVariants as no_end
use Rattle.protocol_spec.specs.declared.refusals.HoldRefusal.{HoldRefusal}
use Rattle.protocol_spec.specs.declared.refusals.HoldRefusal.TheVariants as no_hold
use Rattle.protocol_spec.specs.declared.refusals.RunRefusal.{RunRefusal}
use Rattle.protocol_spec.specs.declared.refusals.RunRefusal.TheVariants as no_run
use Rattle.protocol_spec.specs.declared.refusals.SeeRefusal.{SeeRefusal}
use Rattle.protocol_spec.specs.declared.refusals.SeeRefusal.TheVariants as no_see
use Rattle.protocol_spec.specs.declared.refusals.TurnRefusal.{TurnRefusal}
use Rattle.protocol_spec.specs.declared.refusals.TurnRefusal.TheVariants as no_turn
use Rattle.protocol_spec.specs.declared.refusals.VoteRefusal.{VoteRefusal}
use Rattle.protocol_spec.specs.declared.refusals.VoteRefusal.TheVariants as no_vote
use Rattle.protocol_spec.specs.Chain.Certificates.{Rules}
use Rattle.protocol_spec.specs.Member.Calls.{Voted, close_answer, hold_answer, run_answer, see_answer, turn_answer, vote_answer}
use Rattle.protocol_spec.specs.Member.Member.{Member}
use Rattle.validator_core.specs.Calls.{Acks, Closes, Ends, Holds, Runs, Sees, Turns, Votes, close_ended, hold_ended, run_ended, see_ended, turn_ended, vote_ended}
use Rattle.validator_core.specs.Seats.{answered}
use Rattle.world_core.specs.Replies.{Accepting, SaysClose, SaysHold, SaysRun, SaysSee, SaysTurn, SaysVote}
use Rattle.process_lines.specs.Texts.{ack_refusal_text, end_refusal_text, vote_refusal_text}
use Rattle.validator_process.specs.Says.{AckSays, EndSays, HearsAck, HearsEnd, VoteSays, ack_line, close_line, end_line, hold_line, run_line, see_line, turn_line, vote_line}

-- ---- votes

module _ (accepts : Accepting) (m : ℕ) (said : Result Voted VoteRefusal) where
  vote_refused : (refusal : VoteRefusal) → said ≡ Err refusal → VoteSays accepts m said (vote_refusal_text refusal)
  vote_refused refusal is = subst (λ (s : Result Voted VoteRefusal). VoteSays accepts m s (vote_refusal_text refusal)) (sym is) refl

  vote_as : (given : Result Sent VoteRefusal) → Votes accepts m said given → vote_ended given ≡ answered → VoteSays accepts m said (vote_line given)
  vote_as (Ok v) (is, by) e = subst (λ (s : Result Voted VoteRefusal). VoteSays accepts m s (vote_line (Ok v))) (sym is) (record { sealed = v.sealed; statement = refl; by = by; is = refl })
  vote_as (Err no_vote.Down) is e = vote_refused no_vote.Down is
  vote_as (Err (no_vote.Halted first second)) is e = vote_refused (no_vote.Halted first second) is
  vote_as (Err no_vote.Full) is e = vote_refused no_vote.Full is
  vote_as (Err (no_vote.Malformed fault)) is e = vote_refused (no_vote.Malformed fault) is
  vote_as (Err (no_vote.WrongEpoch had want)) is e = vote_refused (no_vote.WrongEpoch had want) is
  vote_as (Err no_vote.Closed) is e = vote_refused no_vote.Closed is
  vote_as (Err (no_vote.Invalid n)) is e = vote_refused (no_vote.Invalid n) is
  vote_as (Err no_vote.Unsealed) is e = vote_refused no_vote.Unsealed is
  vote_as (Err (no_vote.Absent key)) is e = vote_refused (no_vote.Absent key) is
  vote_as (Err (no_vote.Consumed key by)) is e = vote_refused (no_vote.Consumed key by) is
  vote_as (Err (no_vote.WrongDigest key)) is e = vote_refused (no_vote.WrongDigest key) is
  vote_as (Err (no_vote.WrongOwner key)) is e = vote_refused (no_vote.WrongOwner key) is
  vote_as (Err (no_vote.WrongKind key)) is e = vote_refused (no_vote.WrongKind key) is
  vote_as (Err (no_vote.PoorGas had want)) is e = vote_refused (no_vote.PoorGas had want) is
  vote_as (Err (no_vote.Locked key by)) is e = vote_refused (no_vote.Locked key by) is
  vote_as (Err no_vote.KeepFault) is e = absurd (cc)
  vote_as (Err no_vote.OutOfMemory) is e = absurd (cc)

pub vote_says : (accepts : Accepting) (m : ℕ) (r : Rules) (bytes : List ℕ) (before : Member) (given : Result Sent VoteRefusal) (text : List ℕ)
    → SaysVote r accepts m bytes before given → text ≡ vote_line given → VoteSays accepts m (vote_answer r before bytes) text
vote_says accepts m r bytes before given text says is = subst (VoteSays accepts m (vote_answer r before bytes)) (sym is) (vote_as accepts m (vote_answer r before bytes) given says.answer says.ended)

-- ---- hold

hold_as : (tx : Option Digest) (said given : Result Bool HoldRefusal) → Holds said given → hold_ended given ≡ answered → hold_line tx given ≡ hold_line tx said
hold_as tx said (Ok x) is e = sym (ap (hold_line tx) is)
hold_as tx said (Err no_hold.Down) is e = sym (ap (hold_line tx) is)
hold_as tx said (Err (no_hold.Halted first second)) is e = sym (ap (hold_line tx) is)
hold_as tx said (Err no_hold.Full) is e = sym (ap (hold_line tx) is)
hold_as tx said (Err (no_hold.Malformed fault)) is e = sym (ap (hold_line tx) is)
hold_as tx said (Err (no_hold.WrongEpoch had want)) is e = sym (ap (hold_line tx) is)
hold_as tx said (Err no_hold.Closed) is e = sym (ap (hold_line tx) is)
hold_as tx said (Err (no_hold.Cert why)) is e = sym (ap (hold_line tx) is)
hold_as tx said (Err (no_hold.Fork key first second)) is e = sym (ap (hold_line tx) is)
hold_as tx said (Err no_hold.KeepFault) is e = absurd (cc)
hold_as tx said (Err no_hold.OutOfMemory) is e = absurd (cc)

pub hold_says : (tx : Option Digest) (r : Rules) (bytes : List ℕ) (before : Member) (given : Result Bool HoldRefusal) (text : List ℕ) → SaysHold r bytes before given → text ≡ hold_line tx given → text ≡ hold_line tx (hold_answer r before bytes)
hold_says tx r bytes before given text says is = is ∙ hold_as tx (hold_answer r before bytes) given says.answer says.ended

-- ---- see

see_as : (said given : Result Seen SeeRefusal) → Sees said given → see_ended given ≡ answered → see_line given ≡ see_line said
see_as said (Ok x) is e = sym (ap (see_line) is)
see_as said (Err no_see.Down) is e = sym (ap (see_line) is)
see_as said (Err (no_see.Halted first second)) is e = sym (ap (see_line) is)
see_as said (Err no_see.Full) is e = sym (ap (see_line) is)
see_as said (Err no_see.Over) is e = sym (ap (see_line) is)
see_as said (Err (no_see.Gap had want)) is e = sym (ap (see_line) is)
see_as said (Err (no_see.Fork key first second)) is e = sym (ap (see_line) is)
see_as said (Err no_see.KeepFault) is e = absurd (cc)
see_as said (Err no_see.OutOfMemory) is e = absurd (cc)

pub see_says : (r : Rules) (number : ℕ) (bytes : List ℕ) (before : Member) (given : Result Seen SeeRefusal) (text : List ℕ) → SaysSee r number bytes before given → text ≡ see_line given → text ≡ see_line (see_answer r before number bytes)
see_says r number bytes before given text says is = is ∙ see_as (see_answer r before number bytes) given says.answer says.ended

-- ---- run

run_as : (said given : Result Ran RunRefusal) → Runs said given → run_ended given ≡ answered → run_line given ≡ run_line said
run_as said (Ok x) is e = sym (ap (run_line) is)
run_as said (Err no_run.Down) is e = sym (ap (run_line) is)
run_as said (Err (no_run.Halted first second)) is e = sym (ap (run_line) is)
run_as said (Err no_run.Full) is e = sym (ap (run_line) is)
run_as said (Err no_run.KeepFault) is e = absurd (cc)
run_as said (Err no_run.OutOfMemory) is e = absurd (cc)

pub run_says : (r : Rules) (before : Member) (given : Result Ran RunRefusal) (text : List ℕ) → SaysRun r before given → text ≡ run_line given → text ≡ run_line (run_answer r before)
run_says r before given text says is = is ∙ run_as (run_answer r before) given says.answer says.ended

-- ---- close

close_as : (said given : Result Bool CloseRefusal) → Closes said given → close_ended given ≡ answered → close_line given ≡ close_line said
close_as said (Ok x) is e = sym (ap (close_line) is)
close_as said (Err no_close.Down) is e = sym (ap (close_line) is)
close_as said (Err (no_close.Halted first second)) is e = sym (ap (close_line) is)
close_as said (Err no_close.Full) is e = sym (ap (close_line) is)
close_as said (Err no_close.KeepFault) is e = absurd (cc)
close_as said (Err no_close.OutOfMemory) is e = absurd (cc)

pub close_says : (r : Rules) (before : Member) (given : Result Bool CloseRefusal) (text : List ℕ) → SaysClose r before given → text ≡ close_line given → text ≡ close_line (close_answer r before)
close_says r before given text says is = is ∙ close_as (close_answer r before) given says.answer says.ended

-- ---- turn

turn_as : (epoch : ℕ) (said given : Result (List Digest) TurnRefusal) → Turns said given → turn_ended given ≡ answered → turn_line epoch given ≡ turn_line epoch said
turn_as epoch said (Ok x) is e = sym (ap (turn_line epoch) is)
turn_as epoch said (Err no_turn.Down) is e = sym (ap (turn_line epoch) is)
turn_as epoch said (Err (no_turn.Halted first second)) is e = sym (ap (turn_line epoch) is)
turn_as epoch said (Err no_turn.Full) is e = sym (ap (turn_line epoch) is)
turn_as epoch said (Err no_turn.NotEnded) is e = sym (ap (turn_line epoch) is)
turn_as epoch said (Err (no_turn.Waits tx)) is e = sym (ap (turn_line epoch) is)
turn_as epoch said (Err no_turn.KeepFault) is e = absurd (cc)
turn_as epoch said (Err no_turn.OutOfMemory) is e = absurd (cc)

pub turn_says : (epoch : ℕ) (r : Rules) (before : Member) (given : Result (List Digest) TurnRefusal) (text : List ℕ) → SaysTurn r before given → text ≡ turn_line epoch given → text ≡ turn_line epoch (turn_answer r before)
turn_says epoch r before given text says is = is ∙ turn_as epoch (turn_answer r before) given says.answer says.ended

-- ---- Ends and acknowledgements

module _ (accepts : Accepting) (m : ℕ) (said : Result Statement EndRefusal) where
  end_refused : (refusal : EndRefusal) → said ≡ Err refusal → EndSays accepts m said (end_refusal_text refusal)
  end_refused refusal is = subst (λ (s : Result Statement EndRefusal). EndSays accepts m s (end_refusal_text refusal)) (sym is) refl

  end_as : (given : Result Sealed EndRefusal) → Ends accepts m said given → (given ≡ Err no_end.OutOfMemory → ⊥) → EndSays accepts m said (end_line given)
  end_as (Ok s) (is, by) able = subst (λ (x : Result Statement EndRefusal). EndSays accepts m x (end_line (Ok s))) (sym is) (record { sealed = s; statement = refl; by = by; is = refl })
  end_as (Err no_end.Down) is able = end_refused no_end.Down is
  end_as (Err (no_end.Halted first second)) is able = end_refused (no_end.Halted first second) is
  end_as (Err no_end.NotClosed) is able = end_refused no_end.NotClosed is
  end_as (Err (no_end.Waits tx)) is able = end_refused (no_end.Waits tx) is
  end_as (Err no_end.OutOfMemory) is able = absurd (able refl)

module _ (accepts : Accepting) (m : ℕ) (said : Result Statement AckRefusal) where
  ack_refused : (refusal : AckRefusal) → said ≡ Err refusal → AckSays accepts m said (ack_refusal_text refusal)
  ack_refused refusal is = subst (λ (s : Result Statement AckRefusal). AckSays accepts m s (ack_refusal_text refusal)) (sym is) refl

  ack_as : (given : Result Sealed AckRefusal) → Acks accepts m said given → (given ≡ Err no_ack.OutOfMemory → ⊥) → AckSays accepts m said (ack_line given)
  ack_as (Ok s) (is, by) able = subst (λ (x : Result Statement AckRefusal). AckSays accepts m x (ack_line (Ok s))) (sym is) (record { sealed = s; statement = refl; by = by; is = refl })
  ack_as (Err no_ack.Down) is able = ack_refused no_ack.Down is
  ack_as (Err (no_ack.Halted first second)) is able = ack_refused (no_ack.Halted first second) is
  ack_as (Err no_ack.NotExecuted) is able = ack_refused no_ack.NotExecuted is
  ack_as (Err no_ack.OutOfMemory) is able = absurd (able refl)

pub end_says : (accepts : Accepting) (m : ℕ) (said : Result Statement EndRefusal) (given : Result Sealed EndRefusal) (text : List ℕ) → HearsEnd accepts m said given → text ≡ end_line given → EndSays accepts m said text
end_says accepts m said given text hears is = subst (EndSays accepts m said) (sym is) (end_as accepts m said given hears.answer hears.able)

pub ack_says : (accepts : Accepting) (m : ℕ) (said : Result Statement AckRefusal) (given : Result Sealed AckRefusal) (text : List ℕ) → HearsAck accepts m said given → text ≡ ack_line given → AckSays accepts m said text
ack_says accepts m said given text hears is = subst (AckSays accepts m said) (sym is) (ack_as accepts m said given hears.answer hears.able)
