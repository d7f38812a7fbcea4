-- The checkpoints that a member has built against one thread.
use Rattle.std.specs.Prelude.{◌≡◌, ℕ, true, List, map, flat_map, slice_get, Some}
use Rattle.std.specs.FinMap.{values}
use Rattle.std.specs.List.{list_all}
use Rattle.schedule_text.specs.declared.words.Event.{Event}
use Rattle.protocol_spec.specs.Chain.Words.{Each, IsFront}
use Rattle.protocol_spec.specs.Member.Admission.{Admitted}
use Rattle.protocol_spec.specs.Member.Sequence.{Cut}
use Rattle.protocol_spec.specs.Member.Checkpoints.{is_done}
use Rattle.protocol_spec.specs.Member.Sequential.{map_of, fold_all}
use Rattle.protocol_spec.specs.Member.Member.{Member, turned}
use Rattle.world_spec.specs.Setting.{Setting}
use Rattle.world_spec.specs.World.{Seat, member_in}
use Rattle.world_spec.specs.Run.{world_after}
use Rattle.world_spec.specs.Assumptions.{IsHonestRun}
use Rattle.block_law.specs.Orderly.{AreApart}
use Rattle.safety_law.specs.Thread.{transaction_of, GivesOneThread}

abbrev pub admitted_in : Cut → List Admitted
admitted_in c = c.txs

-- the member built the checkpoint of this cut, if it built those of the cuts before it
abbrev pub IsBuilt : Member → Cut → Type 0
IsBuilt m c = list_all (is_done m.held m.executed) c.txs ≡ true

-- the effects and items in the checkpoints of these cuts, which are its first ones, are those of one thread
abbrev pub CheckpointsOfFold : Type 0
CheckpointsOfFold = (s : Setting) (events : List Event) → IsHonestRun s events → AreApart s.opening
    → (m : ℕ) (seat : Seat) → slice_get (world_after s events).seats m ≡ Some seat
    → (cuts : List Cut) → IsFront cuts (member_in s seat).sequence.cuts → Each (IsBuilt (member_in s seat)) cuts → GivesOneThread (member_in s seat) (flat_map admitted_in cuts)

-- a member that turns with all its checkpoints built opens the next epoch with what one thread leaves after executing
-- the checkpointed transactions in order
abbrev pub TurnsToFold : Type 0
TurnsToFold = (s : Setting) (events : List Event) → IsHonestRun s events → AreApart s.opening
    → (m : ℕ) (seat : Seat) → slice_get (world_after s events).seats m ≡ Some seat → Each (IsBuilt (member_in s seat)) (member_in s seat).sequence.cuts
    → (turned (member_in s seat)).opening ≡ values (fold_all (map_of (member_in s seat).opening) (map transaction_of (flat_map admitted_in (member_in s seat).sequence.cuts))).map
