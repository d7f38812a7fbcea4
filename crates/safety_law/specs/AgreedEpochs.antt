-- What honest members of one epoch agree on.
use Rattle.std.specs.Prelude.{◌≡◌, ◌⊎◌, ℕ, suc, List, ◌++◌, map, flat_map, zip, slice_get, Some, Option}
use Rattle.effects_core.specs.declared.effects.Effects.{Effects}
use Rattle.chain_messages.specs.declared.messages.Entry.{Entry}
use Rattle.schedule_text.specs.declared.words.Event.{Event}
use Rattle.protocol_spec.specs.Chain.Words.{Has, Each, IsFront}
use Rattle.protocol_spec.specs.Member.Versions.{Execution}
use Rattle.protocol_spec.specs.Member.Sequence.{Cut}
use Rattle.protocol_spec.specs.Member.Checkpoints.{item_of}
use Rattle.protocol_spec.specs.Member.Sequential.{map_of, fold_all}
use Rattle.protocol_spec.specs.Member.Member.{Member, built}
use Rattle.world_spec.specs.Setting.{Setting}
use Rattle.world_spec.specs.World.{Seat, member_in}
use Rattle.world_spec.specs.Openings.{txs_in, sequence_of, opening_at}
use Rattle.world_spec.specs.Run.{world_after}
use Rattle.world_spec.specs.Assumptions.{IsHonestRun}
use Rattle.safety_law.specs.Agreed.{IsEarlier}
use Rattle.block_law.specs.Orderly.{AreApart}
use Rattle.safety_law.specs.Thread.{effects_at, item_with}
use Rattle.safety_law.specs.Checkpointed.{admitted_in, IsBuilt}
use Rattle.safety_law.specs.Past.{past_at}

-- the effects of one thread that executes, in order, the transactions of these first checkpoints of an epoch
abbrev pub effects_of_thread : Setting → List (List Entry) → ℕ → List Cut → List (Option Effects)
effects_of_thread s sequences epoch cuts = (fold_all (map_of (opening_at s sequences epoch)) (flat_map txs_in cuts)).effects

-- the checkpoints of these cuts at a member are the first ones that the world's sequences give, and have the effects
-- and the items of one thread
pub record AreOfThread (s : Setting) (sequences : List (List Entry)) (m : Member) (cuts : List Cut) : Type 0 where
  pub first : IsFront cuts (sequence_of s sequences m.epoch (opening_at s sequences m.epoch)).cuts
  pub effects : effects_of_thread s sequences m.epoch cuts ≡ map (effects_at m) (flat_map admitted_in cuts)
  pub items : map item_with (zip (flat_map admitted_in cuts) (effects_of_thread s sequences m.epoch cuts)) ≡ map (item_of m.executed) (flat_map admitted_in cuts)

-- under the run assumptions, the first cuts of a member's sequence whose checkpoints it has built are of one thread in
-- this sense
abbrev pub EveryCheckpoint : Type 0
EveryCheckpoint = (s : Setting) (events : List Event) → IsHonestRun s events → AreApart s.opening
    → (m : ℕ) (seat : Seat) → slice_get (world_after s events).seats m ≡ Some seat
    → (cuts : List Cut) → IsFront cuts (member_in s seat).sequence.cuts → Each (IsBuilt (member_in s seat)) cuts
    → AreOfThread s (world_after s events).sequences (member_in s seat) cuts

-- Of two members of one epoch, one has admitted and cut a prefix of what the other has, what both executed gave the same,
-- and they have the same checkpoints of the epochs before.
pub record Agree (a b : Member) : Type 0 where
  pub openings : a.opening ≡ b.opening
  pub sequences : IsEarlier a.sequence b.sequence ⊎ IsEarlier b.sequence a.sequence
  pub executions : (x y : Execution) → Has a.executed x → Has b.executed y → x.digest ≡ y.digest → x.gave ≡ y.gave
  pub past : a.past ≡ b.past

-- under the run assumptions two members of one epoch agree, at any two moments of the run, the first of which may be
-- the second
abbrev pub MembersAgree : Type 0
MembersAgree = (s : Setting) (front back : List Event) → IsHonestRun s (front ++ back) → AreApart s.opening
    → (m n : ℕ) (a b : Seat) → slice_get (world_after s front).seats m ≡ Some a → slice_get (world_after s (front ++ back)).seats n ≡ Some b
    → (member_in s a).epoch ≡ (member_in s b).epoch → Agree (member_in s a) (member_in s b)

-- the checkpoints that a member has built, in all epochs until now, are the first of those of one thread over the world's sequences
abbrev pub BuiltIsOfThread : Type 0
BuiltIsOfThread = (s : Setting) (events : List Event) → IsHonestRun s events → AreApart s.opening
    → (m : ℕ) (seat : Seat) → slice_get (world_after s events).seats m ≡ Some seat
    → IsFront (built (member_in s seat)) (past_at s (world_after s events).sequences (suc (member_in s seat).epoch))

-- under the run assumptions, of what two members have built, at any two moments and in whatever epochs, the one is a
-- prefix of the other
abbrev pub OneListOfCheckpoints : Type 0
OneListOfCheckpoints = (s : Setting) (front back : List Event) → IsHonestRun s (front ++ back) → AreApart s.opening
    → (m n : ℕ) (a b : Seat) → slice_get (world_after s front).seats m ≡ Some a → slice_get (world_after s (front ++ back)).seats n ≡ Some b
    → IsFront (built (member_in s a)) (built (member_in s b)) ⊎ IsFront (built (member_in s b)) (built (member_in s a))
