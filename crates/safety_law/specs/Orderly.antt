-- A member's executions, in the order of admission, are orderly steps of one thread.
use Rattle.std.specs.Prelude.{◌≡◌, ◌<◌, ℕ, true, List, map, slice_get, Some}
use Rattle.chain_types.specs.declared.objects.Object.{Object}
use Rattle.chain_types.specs.declared.transactions.Transaction.{Transaction}
use Rattle.schedule_text.specs.declared.words.Setup.{Setup}
use Rattle.schedule_text.specs.declared.words.Event.{Event}
use Rattle.protocol_spec.specs.Chain.Words.{Has, Each, IsFront}
use Rattle.protocol_spec.specs.Member.Versions.{is_executed}
use Rattle.protocol_spec.specs.Member.Admission.{Admitted}
use Rattle.protocol_spec.specs.Member.Member.{Member}
use Rattle.world_spec.specs.Setting.{Trust, Setting, setting_of}
use Rattle.world_spec.specs.World.{Seat, member_in}
use Rattle.world_spec.specs.Names.{draws}
use Rattle.world_spec.specs.Run.{world_after}
use Rattle.world_spec.specs.Assumptions.{IsHonestRun, all_transactions, created}
use Rattle.block_law.specs.Orderly.{AreApart, AreOrderly}
use Rattle.safety_law.specs.Steps.{step_of}

-- the set-up of a schedule opens with objects of different ids
abbrev pub SetUpApart : Type 0
SetUpApart = (trust : Trust) (lines : List Setup) → AreApart (setting_of trust lines).opening

-- the objects with which the member's epoch opened have different ids, and none that a transaction of the epoch draws
pub record OpensApart (s : Setting) (events : List Event) (m : Member) : Type 0 where
  pub distinct : AreApart m.opening
  pub new : (t : Transaction) → Has (all_transactions s events) t → t.epoch ≡ m.epoch → (n : ℕ) → n < draws t.commands → (o : Object) → Has m.opening o → o.id ≡ created t n → ⊥

-- from a set-up with objects of different ids, every epoch of every member opens with objects of different ids
-- (`OpensApart`)
abbrev pub EpochsOpenApart : Type 0
EpochsOpenApart = (s : Setting) (events : List Event) → IsHonestRun s events → AreApart s.opening
    → (m : ℕ) (seat : Seat) → slice_get (world_after s events).seats m ≡ Some seat → OpensApart s events (member_in s seat)

-- the member executed all of these, which it admitted first
pub record IsExecutedFront (m : Member) (front : List Admitted) : Type 0 where
  pub is_front : IsFront front m.sequence.admission.admitted
  pub executed : Each (λ (a : Admitted). is_executed m.executed a.digest ≡ true) front

-- the steps of an executed prefix are orderly
abbrev pub StepsOrderly : Type 0
StepsOrderly = (s : Setting) (events : List Event) → IsHonestRun s events → AreApart s.opening
    → (m : ℕ) (seat : Seat) → slice_get (world_after s events).seats m ≡ Some seat
    → (front : List Admitted) → IsExecutedFront (member_in s seat) front → AreOrderly (member_in s seat).opening (map (step_of (member_in s seat)) front)
