-- The state in which an honest member made each statement. Source: Sui Lutris (an honest member acknowledges what it
-- executed, and says that an epoch is to end when all that it holds is in the sequence).
use Rattle.std.specs.Prelude.{◌≡◌, ℕ, true, List, ◌++◌, slice_get, Some}
use Rattle.digest_core.specs.declared.Digest.{Digest}
use Rattle.chain_messages.specs.declared.messages.Statement.{Statement}
use Rattle.chain_messages.specs.declared.messages.Statement.TheVariants as statement
use Rattle.effects_core.specs.Effects.{digest_of_effects}
use Rattle.journal_core.specs.declared.records.Record.{Record}
use Rattle.protocol_spec.specs.declared.answers.Held.{Held}
use Rattle.schedule_text.specs.declared.words.Event.{Event}
use Rattle.protocol_spec.specs.Chain.Words.{Has}
use Rattle.protocol_spec.specs.Member.Versions.{Execution}
use Rattle.protocol_spec.specs.Member.Admission.{is_admitted, is_known}
use Rattle.protocol_spec.specs.Member.Member.{Member, state}
use Rattle.protocol_spec.specs.Member.Calls.{Call}
use Rattle.world_spec.specs.Setting.{Setting}
use Rattle.world_spec.specs.World.{Seat, stated, member_in}
use Rattle.world_spec.specs.Run.{world_after}
use Rattle.world_spec.specs.Assumptions.{IsHonestRun, HasSaid}

-- after a prefix of these records P held of the member
pub record WasOnce (s : Setting) (records : List Record) (P : Member → Type 0) : Type 0 where
  pub front : List Record
  pub back : List Record
  pub whole : records ≡ front ++ back
  pub held : P (state s.rules s.opening front)

-- some call makes the statement in this state
abbrev pub MakesStatement : Setting → Statement → Member → Type 0
MakesStatement s st m = (call : Call) × Has (stated s.rules m call) st

-- each statement of an honest member was made by a call in a state in which the member once was
abbrev pub EveryStatementWasMade : Type 0
EveryStatementWasMade = (s : Setting) (events : List Event) (m : ℕ) (seat : Seat) → slice_get (world_after s events).seats m ≡ Some seat → seat.honest ≡ true
    → (st : Statement) → HasSaid (world_after s events) m st → WasOnce s seat.records (MakesStatement s st)

-- in this epoch the member has executed the transaction, with these effects
pub record HasExecuted (epoch : ℕ) (tx effects : Digest) (m : Member) : Type 0 where
  pub epoch_is : m.epoch ≡ epoch
  pub of : Execution
  pub there : Has m.executed of
  pub named : of.digest ≡ tx
  pub gave : digest_of_effects of.gave.effects ≡ effects

-- an honest member that acknowledged effects had executed the transaction with them, in that epoch
abbrev pub EveryAckWasExecuted : Type 0
EveryAckWasExecuted = (s : Setting) (events : List Event) (m : ℕ) (seat : Seat) → slice_get (world_after s events).seats m ≡ Some seat → seat.honest ≡ true
    → (epoch : ℕ) (tx effects : Digest) → HasSaid (world_after s events) m (statement.Ack epoch tx effects) → WasOnce s seat.records (HasExecuted epoch tx effects)

-- in this epoch the member has closed, and all that it holds is in the sequence, as far as it has seen it
pub record IsSettled (epoch : ℕ) (m : Member) : Type 0 where
  pub epoch_is : m.epoch ≡ epoch
  pub closed : m.closed ≡ true
  pub known : (h : Held) → Has m.held h → is_known m.sequence.admission h.digest ≡ true

-- an honest member that stated the End of an epoch was settled in it
abbrev pub EveryEndWasSettled : Type 0
EveryEndWasSettled = (s : Setting) (events : List Event) (m : ℕ) (seat : Seat) → slice_get (world_after s events).seats m ≡ Some seat → seat.honest ≡ true
    → (epoch : ℕ) → HasSaid (world_after s events) m (statement.End epoch) → WasOnce s seat.records (IsSettled epoch)

-- all that a settled member has executed it has admitted
abbrev pub ExecutedIsAdmitted : Type 0
ExecutedIsAdmitted = (s : Setting) (events : List Event) → IsHonestRun s events → (m : ℕ) (seat : Seat) → slice_get (world_after s events).seats m ≡ Some seat
    → IsSettled (member_in s seat).epoch (member_in s seat)
    → (x : Execution) → Has (member_in s seat).executed x → is_admitted (member_in s seat).sequence.admission.admitted x.digest ≡ true
