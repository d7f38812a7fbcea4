-- What members of one epoch execute alike, under the run assumptions.
use Rattle.std.specs.Prelude.{◌≡◌, ℕ, List, slice_get, Some}
use Rattle.schedule_text.specs.declared.words.Event.{Event}
use Rattle.protocol_spec.specs.Chain.Words.{Has}
use Rattle.protocol_spec.specs.Member.Versions.{Execution}
use Rattle.world_spec.specs.Setting.{Setting}
use Rattle.world_spec.specs.World.{Seat, member_in}
use Rattle.world_spec.specs.Run.{world_after}
use Rattle.world_spec.specs.Assumptions.{IsHonestRun}

-- two members of one epoch that opened it with equal objects give the same for a transaction that both executed
abbrev pub ExecutionsSame : Type 0
ExecutionsSame = (s : Setting) (events : List Event) → IsHonestRun s events → (m n : ℕ) (a b : Seat)
    → slice_get (world_after s events).seats m ≡ Some a → slice_get (world_after s events).seats n ≡ Some b
    → (member_in s a).epoch ≡ (member_in s b).epoch → (member_in s a).opening ≡ (member_in s b).opening
    → (x y : Execution) → Has (member_in s a).executed x → Has (member_in s b).executed y → x.digest ≡ y.digest → x.gave ≡ y.gave
