-- The effects of a member against those of one thread.
use Rattle.std.specs.Prelude.{◌≡◌, ℕ, List, map, zip, slice_get, Option, Some, None, option_map}
use Rattle.chain_types.specs.declared.transactions.Transaction.{Transaction}
use Rattle.effects_core.specs.declared.effects.Effects.{Effects}
use Rattle.effects_core.specs.Effects.{digest_of_effects}
use Rattle.checkpoint_core.specs.declared.checkpoints.Item.{Item}
use Rattle.schedule_text.specs.declared.words.Event.{Event}
use Rattle.protocol_spec.specs.Member.Versions.{Execution, execution_of}
use Rattle.protocol_spec.specs.Member.Admission.{Admitted}
use Rattle.protocol_spec.specs.Member.Checkpoints.{zero_digest, item_of}
use Rattle.protocol_spec.specs.Member.Sequential.{map_of, fold_all}
use Rattle.protocol_spec.specs.Member.Member.{Member}
use Rattle.world_spec.specs.Setting.{Setting}
use Rattle.world_spec.specs.World.{Seat, member_in}
use Rattle.world_spec.specs.Run.{world_after}
use Rattle.world_spec.specs.Assumptions.{IsHonestRun}
use Rattle.block_law.specs.Orderly.{AreApart}
use Rattle.safety_law.specs.Orderly.{IsExecutedFront}

abbrev pub transaction_of : Admitted → Transaction
transaction_of a = a.cert.tx

abbrev pub effects_in_execution : Execution → Effects
effects_in_execution x = x.gave.effects

-- the member's own effects of a transaction, none if it did not execute it
abbrev pub effects_at : Member → Admitted → Option Effects
effects_at m a = option_map effects_in_execution (execution_of m.executed a.digest)

-- the checkpoint item of a transaction that had these effects
abbrev pub item_with : (Admitted × Option Effects) → Item
item_with (a, None) = record { tx = a.digest; effects = zero_digest }
item_with (a, Some e) = record { tx = a.digest; effects = digest_of_effects e }

-- the effects of one thread that executes these on the opening objects, one after the other
abbrev pub thread_effects : Member → List Admitted → List (Option Effects)
thread_effects m front = (fold_all (map_of m.opening) (map transaction_of front)).effects

-- the member's own effects of these transactions are those of one thread, and so are their checkpoint items
pub record GivesOneThread (m : Member) (front : List Admitted) : Type 0 where
  pub effects : thread_effects m front ≡ map (effects_at m) front
  pub items : map item_with (zip front (thread_effects m front)) ≡ map (item_of m.executed) front

abbrev pub EffectsOfFold : Type 0
EffectsOfFold = (s : Setting) (events : List Event) → IsHonestRun s events → AreApart s.opening
    → (m : ℕ) (seat : Seat) → slice_get (world_after s events).seats m ≡ Some seat → (front : List Admitted) → IsExecutedFront (member_in s seat) front → GivesOneThread (member_in s seat) front
