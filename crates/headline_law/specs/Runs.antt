-- What runs do: they execute what is ready, and leave nothing ready and nothing behind. Source: this profile (rounds);
-- Sui Lutris (a certified transaction can be executed at every member that has executed what it needs).
use Rattle.std.specs.Prelude.{◌≡◌, ◌⊎◌, ℕ, true, false, nat_le, List, [], ◌∷◌, ◌++◌, slice_get, Option, Some, None, Ok, Err}
use Rattle.std.specs.List.{list_all}
use Rattle.digest_core.specs.declared.Digest.{Digest}
use Rattle.protocol_spec.specs.declared.answers.Held.{Held}
use Rattle.protocol_spec.specs.declared.answers.Ran.{Ran}
use Rattle.protocol_spec.specs.declared.refusals.TurnRefusal.TheVariants as no_turn
use Rattle.schedule_text.specs.declared.words.Event.{Event}
use Rattle.protocol_spec.specs.Chain.Words.{Has, Each}
use Rattle.protocol_spec.specs.Chain.Certificates.{Rules}
use Rattle.protocol_spec.specs.Member.Versions.{Execution, is_executed}
use Rattle.protocol_spec.specs.Member.Admission.{Admitted}
use Rattle.protocol_spec.specs.Member.Rounds.{Books, Wanted, wants_of, may_run, ready, clashes, round_among, rounds_within, rounds, is_maker_done, is_origin_done, left}
use Rattle.protocol_spec.specs.Member.Member.{Member, books, fork_of, with_rounds}
use Rattle.protocol_spec.specs.Member.Calls.{record_limit, run_answer, turn_answer}
use Rattle.world_spec.specs.Setting.{Setting}
use Rattle.world_spec.specs.World.{Seat, member_in}
use Rattle.world_spec.specs.Run.{world_after}
use Rattle.world_spec.specs.Assumptions.{IsHonestRun}
use Rattle.block_law.specs.Orderly.{AreApart}
use Rattle.safety_law.specs.Checkpointed.{IsBuilt}

-- no held certificate is ready after these executions
abbrev pub IsRunOut : Books → List Execution → Type 0
IsRunOut b executed = (h : Held) → Has b.held h → ready b executed h ≡ None

-- after the rounds of a run no held certificate is ready, whatever is held and was executed
abbrev pub NothingIsReadyBehindARun : Type 0
NothingIsReadyBehindARun = (b : Books) (executed : List Execution) → IsRunOut b (executed ++ rounds b executed)

-- the certificate is kept out of the round after these executions: that round takes an earlier held certificate that
-- writes one of its keys
pub record IsKeptOut (b : Books) (executed : List Execution) (h : Held) (x : Execution) : Type 0 where
  pub front : List Held
  pub back : List Held
  pub split : b.held ≡ front ++ h ∷ back
  pub clash : clashes (round_among b executed [] front) x ≡ true

-- what is ready at first, or after some of the rounds, is executed, if nothing keeps it out of its round
abbrev pub RoundsTakeReady : Books → List Execution → Type 0
RoundsTakeReady b executed = (n : ℕ) (h : Held) (x : Execution) → Has b.held h → ready b (executed ++ rounds_within n b executed) h ≡ Some x
    → Has (rounds b executed) x ⊎ IsKeptOut b (executed ++ rounds_within n b executed) h x

-- `RoundsTakeReady` for whatever is held and was executed
abbrev pub WhatIsReadyIsExecuted : Type 0
WhatIsReadyIsExecuted = (b : Books) (executed : List Execution) → RoundsTakeReady b executed

-- the next run of the member answers that it executed this, and it did
pub record RunsAs (r : Rules) (m : Member) (x : Execution) : Type 0 where
  pub ran : Ran
  pub answer : run_answer r m ≡ Ok ran
  pub told : Has ran.executed x.gave.effects
  pub stands : Has (with_rounds m).executed x

-- what a certificate's execution gives, if it is ready after this many rounds of the member's next run
abbrev pub ready_behind : ℕ → Member → Held → Option Execution
ready_behind n m h = ready (books m) (m.executed ++ rounds_within n (books m) m.executed) h

-- the certificate is kept out of the round that comes after this many rounds of the member's next run
abbrev pub IsKeptOutBehind : ℕ → Member → Held → Execution → Type 0
IsKeptOutBehind n m h x = IsKeptOut (books m) (m.executed ++ rounds_within n (books m) m.executed) h x

-- the next run of a member that is not halted and has room for a record executes what is ready then or after some of its
-- rounds, if nothing keeps it out
abbrev pub CompletesRuns : Rules → Member → Type 0
CompletesRuns r m = fork_of m ≡ None → nat_le record_limit m.records ≡ false
    → (n : ℕ) (h : Held) (x : Execution) → Has m.held h → ready_behind n m h ≡ Some x → RunsAs r m x ⊎ IsKeptOutBehind n m h x

-- every member completes its runs in this sense
abbrev pub RunsAreComplete : Type 0
RunsAreComplete = (r : Rules) (m : Member) → CompletesRuns r m

-- under the run assumptions nothing is kept out: a run executes all that is ready before it or after some of its
-- rounds
abbrev pub RunsExecuteReady : Type 0
RunsExecuteReady = (s : Setting) (events : List Event) → IsHonestRun s events → AreApart s.opening
    → (m : ℕ) (seat : Seat) → slice_get (world_after s events).seats m ≡ Some seat
    → (ran : Ran) → run_answer s.rules (member_in s seat) ≡ Ok ran
    → (n : ℕ) (h : Held) (x : Execution) → Has (member_in s seat).held h → ready_behind n (member_in s seat) h ≡ Some x
    → is_executed (with_rounds (member_in s seat)).executed h.digest ≡ true

-- under the run assumptions, a member at which nothing is ready has nothing left to report
abbrev pub NothingIsLeft : Type 0
NothingIsLeft = (s : Setting) (events : List Event) → IsHonestRun s events → AreApart s.opening
    → (m : ℕ) (seat : Seat) → slice_get (world_after s events).seats m ≡ Some seat
    → IsRunOut (books (member_in s seat)) (member_in s seat).executed → left (books (member_in s seat)) (member_in s seat).executed ≡ []

-- under the run assumptions no run leaves anything, at any member and moment
abbrev pub NoRunLeavesAnything : Type 0
NoRunLeavesAnything = (s : Setting) (events : List Event) → IsHonestRun s events → AreApart s.opening
    → (m : ℕ) (seat : Seat) → slice_get (world_after s events).seats m ≡ Some seat
    → (ran : Ran) → run_answer s.rules (member_in s seat) ≡ Ok ran → ran.left ≡ []

-- the member admitted the certificate, if it has a shared input, and executed all its origins and assigned writers
pub record HasNothingToWaitFor (m : Member) (h : Held) : Type 0 where
  pub may : may_run (books m) h ≡ true
  pub origins : list_all (is_origin_done m.executed) h.cert.origins ≡ true
  pub writers : list_all (λ (w : Wanted). is_maker_done m.executed w.producer) (wants_of m.sequence.admission h) ≡ true

-- under the run assumptions a run executes each held certificate that has nothing to wait for after it
abbrev pub RunsExecuteAll : Type 0
RunsExecuteAll = (s : Setting) (events : List Event) → IsHonestRun s events → AreApart s.opening
    → (m : ℕ) (seat : Seat) → slice_get (world_after s events).seats m ≡ Some seat
    → (ran : Ran) → run_answer s.rules (member_in s seat) ≡ Ok ran
    → (h : Held) → Has (member_in s seat).held h → HasNothingToWaitFor (with_rounds (member_in s seat)) h → is_executed (with_rounds (member_in s seat)).executed h.digest ≡ true

-- under the run assumptions a run executes all that the member admitted
abbrev pub RunsExecuteAdmitted : Type 0
RunsExecuteAdmitted = (s : Setting) (events : List Event) → IsHonestRun s events → AreApart s.opening
    → (m : ℕ) (seat : Seat) → slice_get (world_after s events).seats m ≡ Some seat
    → (ran : Ran) → run_answer s.rules (member_in s seat) ≡ Ok ran
    → (a : Admitted) → Has (member_in s seat).sequence.admission.admitted a → is_executed (with_rounds (member_in s seat)).executed a.digest ≡ true

-- under the run assumptions a run builds the checkpoint of every cut that the member has seen
abbrev pub RunsBuildAll : Type 0
RunsBuildAll = (s : Setting) (events : List Event) → IsHonestRun s events → AreApart s.opening
    → (m : ℕ) (seat : Seat) → slice_get (world_after s events).seats m ≡ Some seat
    → (ran : Ran) → run_answer s.rules (member_in s seat) ≡ Ok ran
    → Each (IsBuilt (with_rounds (member_in s seat))) (member_in s seat).sequence.cuts

-- under the run assumptions no turn after a run is refused for a certificate that waits
abbrev pub NoTurnWaitsBehindARun : Type 0
NoTurnWaitsBehindARun = (s : Setting) (events : List Event) → IsHonestRun s events → AreApart s.opening
    → (m : ℕ) (seat : Seat) → slice_get (world_after s events).seats m ≡ Some seat
    → (ran : Ran) → run_answer s.rules (member_in s seat) ≡ Ok ran
    → (tx : Digest) → turn_answer s.rules (with_rounds (member_in s seat)) ≡ Err (no_turn.Waits tx) → ⊥
