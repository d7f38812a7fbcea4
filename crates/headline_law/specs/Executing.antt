-- What a `run` line of a schedule executes, in any run. Source: Sui Lutris (execution of certificates); this profile
-- (rounds, the report).
use Rattle.std.specs.Prelude.{◌≡◌, ◌⊎◌, ℕ, true, false, nat_le, List, [], ◌∷◌, ◌++◌, slice_get, Some, None}
use Rattle.protocol_spec.specs.declared.answers.Held.{Held}
use Rattle.schedule_text.specs.declared.words.Event.{Event}
use Rattle.schedule_text.specs.declared.words.Event.TheVariants as event
use Rattle.protocol_spec.specs.Chain.Words.{Has}
use Rattle.protocol_spec.specs.Member.Versions.{Execution}
use Rattle.protocol_spec.specs.Member.Member.{fork_of}
use Rattle.protocol_spec.specs.Member.Calls.{record_limit}
use Rattle.world_spec.specs.Setting.{Setting}
use Rattle.world_spec.specs.World.{Seat, member_in}
use Rattle.world_spec.specs.Report.{effects_line, lines_of}
use Rattle.world_spec.specs.Run.{world_after}
use Rattle.headline_law.specs.Runs.{IsKeptOutBehind, ready_behind}

-- the member is up, no stop is armed, it is not halted, and it has room for a record
pub record CanRun (s : Setting) (seat : Seat) : Type 0 where
  pub up : seat.up ≡ true
  pub unarmed : seat.armed ≡ None
  pub runs_on : fork_of (member_in s seat) ≡ None
  pub room : nat_le record_limit (member_in s seat).records ≡ false

-- after a `run` line the member has executed this, and a line of the report says with which effects
pub record LineExecutes (s : Setting) (events : List Event) (m workers : ℕ) (x : Execution) : Type 0 where
  pub seat : Seat
  pub there : slice_get (world_after s (events ++ event.Run m workers ∷ [])).seats m ≡ Some seat
  pub executed : Has (member_in s seat).executed x
  pub told : Has (lines_of s (world_after s events) (event.Run m workers)) (effects_line (world_after s events) x.gave.effects)

-- a `run` line after these events executes each held certificate that is ready before the line or after some rounds of
-- its run, except one that writes a key which an earlier held certificate writes in the same round
abbrev pub ReadyIsExecuted : Setting → List Event → Type 0
ReadyIsExecuted s events = (m workers : ℕ) (seat : Seat) → slice_get (world_after s events).seats m ≡ Some seat → CanRun s seat
    → (n : ℕ) (h : Held) (x : Execution) → Has (member_in s seat).held h → ready_behind n (member_in s seat) h ≡ Some x
    → LineExecutes s events m workers x ⊎ IsKeptOutBehind n (member_in s seat) h x

-- `ReadyIsExecuted` at every moment of every run, with no premise
abbrev pub ReadyIsAlwaysExecuted : Type 0
ReadyIsAlwaysExecuted = (s : Setting) (events : List Event) → ReadyIsExecuted s events
