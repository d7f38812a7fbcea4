-- The objects with which honest members open their epochs.
use Rattle.std.specs.Prelude.{◌≡◌, ◌<◌, ℕ, true, List, [], ◌∷◌, ◌++◌, slice_get, Option, Some, is_some}
use Rattle.chain_types.specs.declared.objects.Object.{Object}
use Rattle.chain_types.specs.declared.transactions.Transaction.{Transaction}
use Rattle.effects_core.specs.declared.effects.Effects.{Effects}
use Rattle.chain_messages.specs.declared.messages.Entry.{Entry}
use Rattle.schedule_text.specs.declared.words.Event.{Event}
use Rattle.protocol_spec.specs.Chain.Words.{Each}
use Rattle.protocol_spec.specs.Member.Sequence.{Sequence}
use Rattle.protocol_spec.specs.Member.Sequential.{Folded, map_of, read_by, fold_one, fold_all}
use Rattle.protocol_spec.specs.Member.Member.{Member}
use Rattle.world_spec.specs.Setting.{Setting}
use Rattle.world_spec.specs.World.{Seat, member_in}
use Rattle.world_spec.specs.Openings.{checkpointed, sequence_of, opening_at}
use Rattle.world_spec.specs.Run.{world_after}
use Rattle.world_spec.specs.Assumptions.{IsHonestRun}
use Rattle.block_law.specs.Keeping.{GasIsAmount}
use Rattle.block_law.specs.Kept.{Follow, opened_with}
use Rattle.block_law.specs.Orderly.{AreApart}
use Rattle.safety_law.specs.Past.{past_at}

abbrev pub HasEffects : Option Effects → Type 0
HasEffects e = is_some e ≡ true

-- wherever one of these transactions is executed, its gas coin holds an amount: less than 2 ^ 64, as each object of
-- the code does
abbrev pub GasHolds : Folded → List Transaction → Type 0
GasHolds f [] = Unit {0}
GasHolds f (t ∷ txs) = ((objects : List Object) → read_by f.map t ≡ Some objects → GasIsAmount objects) × GasHolds (fold_one f t) txs

abbrev pub GasHoldsIn : List Object → Sequence → Type 0
GasHoldsIn opening q = GasHolds (opened_with (map_of opening)) (checkpointed q)

-- An epoch that opened with these objects, and what its sequence gave: it has ended, the objects have different ids,
-- and one thread executes all checkpointed transactions in order; if gas coins hold amounts, each may run where it stands, with new ids.
pub record IsOver (opening : List Object) (q : Sequence) : Type 0 where
  pub ended : q.ended ≡ true
  pub apart : AreApart opening
  pub executed : Each HasEffects (fold_all (map_of opening) (checkpointed q)).effects
  pub follow : GasHoldsIn opening q → Follow (opened_with (map_of opening)) (checkpointed q)

-- an epoch of the world's sequences is over in this sense; it opens with what the epochs before left
abbrev pub IsPast : Setting → List (List Entry) → ℕ → Type 0
IsPast s sequences epoch = IsOver (opening_at s sequences epoch) (sequence_of s sequences epoch (opening_at s sequences epoch))

-- The member opened its epoch with the objects that one thread leaves after executing the checkpointed transactions of the
-- epochs before, one epoch after the other; all of these epochs are over, and their checkpoints are those of that thread.
pub record OpensAsLeft (s : Setting) (sequences : List (List Entry)) (m : Member) : Type 0 where
  pub opening : m.opening ≡ opening_at s sequences m.epoch
  pub past : (epoch : ℕ) → epoch < m.epoch → IsPast s sequences epoch
  pub checkpoints : m.past ≡ past_at s sequences m.epoch

-- under the run assumptions, from a set-up with objects of different ids, every member opened its epoch in this way
abbrev pub EveryOpening : Type 0
EveryOpening = (s : Setting) (events : List Event) → IsHonestRun s events → AreApart s.opening
    → (m : ℕ) (seat : Seat) → slice_get (world_after s events).seats m ≡ Some seat
    → OpensAsLeft s (world_after s events).sequences (member_in s seat)

-- under the run assumptions two members of one epoch opened it with equal objects, at any two moments of the run
abbrev pub OpenedAlike : Type 0
OpenedAlike = (s : Setting) (front back : List Event) → IsHonestRun s (front ++ back) → AreApart s.opening
    → (m n : ℕ) (a b : Seat) → slice_get (world_after s front).seats m ≡ Some a → slice_get (world_after s (front ++ back)).seats n ≡ Some b
    → (member_in s a).epoch ≡ (member_in s b).epoch → (member_in s a).opening ≡ (member_in s b).opening
