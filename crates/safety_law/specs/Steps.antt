-- What a member executes of its admitted transactions, as steps of one thread.
use Rattle.std.specs.Prelude.{◌≡◌, ℕ, true, List, slice_get, Some}
use Rattle.schedule_text.specs.declared.words.Event.{Event}
use Rattle.protocol_spec.specs.Chain.Words.{Has}
use Rattle.protocol_spec.specs.Chain.Keys.{fits}
use Rattle.protocol_spec.specs.Member.Versions.{Execution, is_executed}
use Rattle.protocol_spec.specs.Member.Admission.{Admitted}
use Rattle.protocol_spec.specs.Member.Rounds.{present, executes_as}
use Rattle.protocol_spec.specs.Member.Member.{Member, books}
use Rattle.world_spec.specs.Setting.{Setting}
use Rattle.world_spec.specs.World.{Seat, list_or_none, member_in}
use Rattle.world_spec.specs.Run.{world_after}
use Rattle.world_spec.specs.Assumptions.{IsHonestRun}
use Rattle.block_law.specs.Admitted.{held_again}
use Rattle.block_law.specs.Orderly.{Step, gave}

-- an admitted transaction, with the objects that it wants at this member
abbrev pub step_of : Member → Admitted → Step
step_of m a = record { tx = a.cert.tx; inputs = list_or_none (present (books m) m.executed (held_again a)) }

-- the member executed it on those objects, which were all there and fit, and gave what the step gives
pub record IsStepOf (m : Member) (a : Admitted) : Type 0 where
  pub there : present (books m) m.executed (held_again a) ≡ Some (step_of m a).inputs
  pub fit : fits a.cert.tx (step_of m a).inputs ≡ true
  pub executed : Has m.executed (executes_as (held_again a) (gave (step_of m a)))

-- an admitted transaction that a member executed is such a step
abbrev pub ExecutedIsStep : Type 0
ExecutedIsStep = (s : Setting) (events : List Event) → IsHonestRun s events → (m : ℕ) (seat : Seat) → slice_get (world_after s events).seats m ≡ Some seat
    → (a : Admitted) → Has (member_in s seat).sequence.admission.admitted a → is_executed (member_in s seat).executed a.digest ≡ true
    → IsStepOf (member_in s seat) a

-- an admitted transaction is executed at the version with which it was admitted
abbrev pub VersionsSame : Type 0
VersionsSame = (s : Setting) (events : List Event) → IsHonestRun s events → (m : ℕ) (seat : Seat) → slice_get (world_after s events).seats m ≡ Some seat
    → (a : Admitted) → Has (member_in s seat).sequence.admission.admitted a
    → (x : Execution) → Has (member_in s seat).executed x → x.digest ≡ a.digest → x.gave.effects.version ≡ a.version
