-- What follows for a transaction whose effects a quorum acknowledged. Source: Sui Lutris (effects certificates, and the
-- end of an epoch).
use Rattle.std.specs.Prelude.{◌≡◌, ◌<◌, ℕ, List, ◌++◌, slice_get, Some}
use Rattle.digest_core.specs.declared.Digest.{Digest}
use Rattle.checkpoint_core.specs.declared.checkpoints.Item.{Item}
use Rattle.checkpoint_core.specs.declared.checkpoints.Checkpoint.{Checkpoint}
use Rattle.schedule_text.specs.declared.words.Event.{Event}
use Rattle.schedule_text.specs.declared.words.Setup.{Setup}
use Rattle.protocol_spec.specs.Chain.Words.{Has}
use Rattle.protocol_spec.specs.Member.Member.{built}
use Rattle.world_spec.specs.Setting.{Setting, Trust, setting_of}
use Rattle.world_spec.specs.World.{Seat, member_in}
use Rattle.world_spec.specs.Run.{world_after}
use Rattle.world_spec.specs.Assumptions.{IsFinal, IsHonestRun}
use Rattle.block_law.specs.Orderly.{AreApart}
use Rattle.headline_law.specs.Stated.{HasExecuted}

-- one of these checkpoints, of this epoch, has the transaction, with these effects, and none of the epoch has it with others
pub record StandsIn (checkpoints : List Checkpoint) (epoch : ℕ) (tx effects : Digest) : Type 0 where
  pub checkpoint : Checkpoint
  pub among : Has checkpoints checkpoint
  pub epoch_is : checkpoint.epoch ≡ epoch
  pub item : Has checkpoint.items (record { tx = tx; effects = effects })
  pub only : (c : Checkpoint) → Has checkpoints c → c.epoch ≡ epoch → (i : Item) → Has c.items i → i.tx ≡ tx → i.effects ≡ effects

-- at any moment of the run, the transaction stands (`StandsIn`) in what each member that has left the epoch has built;
-- such a member is in a later epoch
abbrev pub StandsForGood : Setting → List Event → ℕ → Digest → Digest → Type 0
StandsForGood s events epoch tx effects = (front back : List Event) → events ≡ front ++ back → (m : ℕ) (seat : Seat) → slice_get (world_after s front).seats m ≡ Some seat
    → epoch < (member_in s seat).epoch → StandsIn (built (member_in s seat)) epoch tx effects

-- what a quorum acknowledged, which may include faulty members, stands for good, whether it did so before a member left
-- the epoch or after it
abbrev pub FinalStands : Type 0
FinalStands = (s : Setting) (events : List Event) → IsHonestRun s events → AreApart s.opening
    → (epoch : ℕ) (tx effects : Digest) (members : List ℕ) → IsFinal s (world_after s events) epoch tx effects members → StandsForGood s events epoch tx effects

-- `FinalStands` for every run of every schedule: its set-up always opens with objects of different ids
abbrev pub FinalStandsInSchedules : Type 0
FinalStandsInSchedules = (trust : Trust) (lines : List Setup) (events : List Event) → IsHonestRun (setting_of trust lines) events
    → (epoch : ℕ) (tx effects : Digest) (members : List ℕ) → IsFinal (setting_of trust lines) (world_after (setting_of trust lines) events) epoch tx effects members
    → StandsForGood (setting_of trust lines) events epoch tx effects

-- every member that has executed the transaction in that epoch has it with these effects, at any moment of the run
abbrev pub FinalIsAgreed : Type 0
FinalIsAgreed = (s : Setting) (events : List Event) → IsHonestRun s events → AreApart s.opening
    → (epoch : ℕ) (tx effects : Digest) (members : List ℕ) → IsFinal s (world_after s events) epoch tx effects members
    → (front back : List Event) → events ≡ front ++ back → (m : ℕ) (seat : Seat) → slice_get (world_after s front).seats m ≡ Some seat
    → (others : Digest) → HasExecuted epoch tx others (member_in s seat) → others ≡ effects

-- no two quorums acknowledged different effects of one transaction, nor one transaction in different epochs
abbrev pub FinalOnce : Type 0
FinalOnce = (s : Setting) (events : List Event) → IsHonestRun s events → (tx : Digest)
    → (epoch other : ℕ) (effects others : Digest) (members peers : List ℕ) → IsFinal s (world_after s events) epoch tx effects members → IsFinal s (world_after s events) other tx others peers
    → (epoch ≡ other) × (effects ≡ others)
