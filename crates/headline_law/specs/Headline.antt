-- The headline, on one page: what holds at every moment of every run, and what more holds if under a third of the stake
-- is faulty, no statement is forged, and digests and ids do not collide, whatever is lost, repeated, stopped and
-- restarted. Source: Sui Lutris.
use Rattle.std.specs.Prelude.{◌≡◌, ◌≢◌, ◌<◌, ◌+◌, ◌⊎◌, ℕ, suc, true, false, List, [], ◌++◌, slice_get, Option, Some, None, Ok, Err}
use Rattle.digest_core.specs.declared.Digest.{Digest}
use Rattle.chain_types.specs.declared.objects.Object.{Object}
use Rattle.chain_types.specs.declared.objects.ObjectKey.{ObjectKey}
use Rattle.chain_types.specs.declared.transactions.SignedTx.{SignedTx}
use Rattle.chain_types.specs.declared.transactions.Transaction.{Transaction}
use Rattle.chain_types.specs.Digests.{consumed_keys, transaction_digest}
use Rattle.chain_messages.specs.declared.messages.Certificate.{Certificate}
use Rattle.journal_core.specs.declared.records.Record.TheVariants as record_as
use Rattle.protocol_spec.specs.declared.answers.Held.{Held}
use Rattle.protocol_spec.specs.declared.answers.Ran.{Ran}
use Rattle.protocol_spec.specs.declared.refusals.TurnRefusal.TheVariants as no_turn
use Rattle.schedule_text.specs.declared.words.Schedule.{Schedule}
use Rattle.schedule_text.specs.declared.words.Event.{Event}
use Rattle.schedule_text.specs.Schedule.{schedule_of}
use Rattle.protocol_spec.specs.Chain.Words.{Each, Has, IsFront}
use Rattle.protocol_spec.specs.Chain.Keys.{currency_sum}
use Rattle.protocol_spec.specs.Chain.Certificates.{accepts_sender}
use Rattle.protocol_spec.specs.Block.Execution.{execution}
use Rattle.protocol_spec.specs.Member.Versions.{Execution, is_executed}
use Rattle.protocol_spec.specs.Member.Admission.{Admitted}
use Rattle.protocol_spec.specs.Member.Sequence.{Cut}
use Rattle.protocol_spec.specs.Member.Rounds.{executes_as, ready}
use Rattle.protocol_spec.specs.Member.Member.{Member, books, built, fork_of, with_rounds}
use Rattle.protocol_spec.specs.Member.Calls.{run_answer, turn_answer}
use Rattle.world_spec.specs.Setting.{Name, Setting, Trust, setting_of}
use Rattle.world_spec.specs.World.{Seat, World, is_honest, member_in}
use Rattle.world_spec.specs.Openings.{opening_at}
use Rattle.world_spec.specs.Run.{report, world_after}
use Rattle.world_spec.specs.Assumptions.{IsCertified, IsFinal, IsHonestRun}
use Rattle.block_law.specs.Money.{supply_sum}
use Rattle.safety_law.specs.Owners.{all_handed}
use Rattle.safety_law.specs.AgreedEpochs.{AreOfThread}
use Rattle.safety_law.specs.Checkpointed.{IsBuilt}
use Rattle.safety_law.specs.Opened.{OpensAsLeft}
use Rattle.safety_law.specs.Past.{past_at}
use Rattle.safety_law.specs.Sums.{epoch_gas}
use Rattle.headline_law.specs.Chained.{AreOneChain}
use Rattle.headline_law.specs.Complete.{MayExecute}
use Rattle.headline_law.specs.Runs.{ready_behind}
use Rattle.headline_law.specs.Alarms.{IsCalm}
use Rattle.headline_law.specs.Executing.{ReadyIsExecuted}
use Rattle.headline_law.specs.Final.{StandsForGood}
use Rattle.headline_law.specs.Printed.{WasFinal, final_by}

-- what holds of the certified transactions of a run
pub record AreSafe (s : Setting) (events : List Event) : Type 0 where
  -- two of one epoch that consume one version are the same transaction
  pub one_owner : (c d : Certificate) → IsCertified s events c → IsCertified s events d → c.tx.epoch ≡ d.tx.epoch
      → (key : ObjectKey) → Has (consumed_keys c.tx) key → Has (consumed_keys d.tx) key → c.tx ≡ d.tx
  -- some honest member was handed each with its sender's accepted seal
  pub signed : (c : Certificate) → IsCertified s events c
      → (m : ℕ) × (x : SignedTx) × (is_honest (world_after s events) m ≡ true) × Has (all_handed s events m) x × (x.tx ≡ c.tx) × (accepts_sender s.rules x.tx x.seal ≡ true)

-- what holds of a member at any moment
pub record Stands (s : Setting) (w : World) (m : Member) : Type 0 where
  -- it opened its epoch with what one thread leaves after executing the checkpointed transactions of the epochs before, in order
  pub opens : OpensAsLeft s w.sequences m
  -- the checkpoints that it has built are the first of that thread: numbers, parents, transactions, effects
  pub builds : IsFront (built m) (past_at s w.sequences (suc m.epoch))
  -- in its epoch, for the first cuts whose checkpoints it has built, its effects are those of that thread, whole and
  -- not only by their digests
  pub effects : (cuts : List Cut) → IsFront cuts m.sequence.cuts → Each (IsBuilt m) cuts → AreOfThread s w.sequences m cuts
  -- it holds no two certificates that consume one version, so it is not halted
  pub runs_on : fork_of m ≡ None
  -- what it holds and did not execute, whose inputs are there, and that it admitted if it has a shared input, is ready
  pub is_ready : (h : Held) (objects : List Object) → MayExecute m h objects → is_executed m.executed h.digest ≡ false → ready (books m) m.executed h ≡ Some (executes_as h (execution h.cert.tx objects))
  -- a run executes all that is ready before it or after some of its rounds
  pub takes : (ran : Ran) → run_answer s.rules m ≡ Ok ran → (n : ℕ) (h : Held) (x : Execution) → Has m.held h → ready_behind n m h ≡ Some x → is_executed (with_rounds m).executed h.digest ≡ true
  -- a run executes all that was admitted
  pub executes : (ran : Ran) → run_answer s.rules m ≡ Ok ran → (a : Admitted) → Has m.sequence.admission.admitted a → is_executed (with_rounds m).executed a.digest ≡ true
  -- a run leaves no certificate that waits for nothing
  pub leaves : (ran : Ran) → run_answer s.rules m ≡ Ok ran → ran.left ≡ []
  -- after a run no turn waits for a transaction
  pub moves_on : (ran : Ran) → run_answer s.rules m ≡ Ok ran → (tx : Digest) → turn_answer s.rules (with_rounds m) ≡ Err (no_turn.Waits tx) → ⊥
  -- of the currency of gas, all that went in an epoch that it left is the gas of the checkpointed transactions
  pub gas : (epoch : ℕ) → epoch < m.epoch
      → currency_sum (opening_at s w.sequences (suc epoch)) 0 + epoch_gas s w.sequences epoch ≡ currency_sum (opening_at s w.sequences epoch) 0
  -- of each other currency its opening objects hold as much as their caps say
  pub backed : (currency : ℕ) → currency ≢ 0 → currency_sum m.opening currency ≡ supply_sum m.opening currency

-- what holds of two members at one moment
pub record Agree (a b : Member) : Type 0 where
  -- in one epoch they opened it with equal objects
  pub openings : a.epoch ≡ b.epoch → a.opening ≡ b.opening
  -- the versions of each object that they hold then are one chain, in which each was taken by one transaction at most
  pub versions : a.epoch ≡ b.epoch → AreOneChain a b
  -- of what they have built, in whatever epochs, the one is a prefix of the other
  pub checkpoints : IsFront (built a) (built b) ⊎ IsFront (built b) (built a)

-- what holds under the run assumptions at the moment after these events
pub record Holds (s : Setting) (events : List Event) : Type 0 where
  pub certified : AreSafe s events
  pub member : (m : ℕ) (seat : Seat) → slice_get (world_after s events).seats m ≡ Some seat → Stands s (world_after s events) (member_in s seat)
  pub members : (m n : ℕ) (a b : Seat) → slice_get (world_after s events).seats m ≡ Some a → slice_get (world_after s events).seats n ≡ Some b
      → Agree (member_in s a) (member_in s b)
  -- what a quorum acknowledged stands, with these effects, in a checkpoint of its epoch at each member that has left it
  pub final : (epoch : ℕ) (tx effects : Digest) (members : List ℕ) → IsFinal s (world_after s events) epoch tx effects members → StandsForGood s events epoch tx effects
  -- each transaction of which the report says that it is final stands for good too
  pub reported : (name : Name) (members : List ℕ) → Has (report s events) (final_by name members) → WasFinal s events name members
  -- no line of the report says that a member met two certificates that consume one version, that a run left something, or
  -- that a record is bad
  pub calm : IsCalm s events

-- no member cast votes of one epoch for transactions of different digests that consume one version, over its whole
-- journal
abbrev pub VotesOnce : Setting → List Event → Type 0
VotesOnce s events = (m : ℕ) (seat : Seat) → slice_get (world_after s events).seats m ≡ Some seat
    → (t u : Transaction) (origins others : List (Option Digest)) → Has seat.records (record_as.Vote t origins) → Has seat.records (record_as.Vote u others)
    → t.epoch ≡ u.epoch → (transaction_digest t ≡ transaction_digest u → ⊥)
    → (key : ObjectKey) → Has (consumed_keys t) key → Has (consumed_keys u) key → ⊥

-- the promise for the moment after these events: the first two parts with no premise, the third under the run
-- assumptions
pub record IsPromised (s : Setting) (events : List Event) : Type 0 where
  pub votes : VotesOnce s events
  -- a `run` line that could come now executes what is ready, at each member that can run
  pub completes : ReadyIsExecuted s events
  pub holds : IsHonestRun s events → Holds s events

-- the headline: the promise holds at each moment of the run of each text that is a schedule, whatever seals are
-- accepted
abbrev pub EveryMomentHolds : Type 0
EveryMomentHolds = (text : List ℕ) (t : Schedule) → schedule_of text ≡ Ok t → (trust : Trust) → (front back : List Event) → t.events ≡ front ++ back
    → IsPromised (setting_of trust t.setup) front
