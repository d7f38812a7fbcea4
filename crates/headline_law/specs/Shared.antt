-- In an epoch all versions of one object are shared alike.
use Rattle.std.specs.Prelude.{◌≡◌, ℕ, List, ◌++◌, slice_get, Some}
use Rattle.schedule_text.specs.declared.words.Event.{Event}
use Rattle.protocol_spec.specs.Chain.Words.{Has}
use Rattle.protocol_spec.specs.Member.Versions.{Version, versions}
use Rattle.protocol_spec.specs.Member.Member.{Member}
use Rattle.world_spec.specs.Setting.{Setting}
use Rattle.world_spec.specs.World.{Seat, member_in}
use Rattle.world_spec.specs.Run.{world_after}
use Rattle.world_spec.specs.Assumptions.{IsHonestRun}
use Rattle.block_law.specs.Shared.{shared_since}
use Rattle.block_law.specs.Orderly.{AreApart}

-- versions of one id that these members have are shared since the same version, or none of them is shared
abbrev pub ShareAlike : Member → Member → Type 0
ShareAlike a b = (u v : Version) → Has (versions a.opening a.executed) u → Has (versions b.opening b.executed) v → u.object.id ≡ v.object.id
    → shared_since u.object.owner ≡ shared_since v.object.owner

-- under the run assumptions two members of one epoch share alike, at any two moments of the run, the first of which
-- may be the second
abbrev pub VersionsAreSharedAlike : Type 0
VersionsAreSharedAlike = (s : Setting) (front back : List Event) → IsHonestRun s (front ++ back) → AreApart s.opening
    → (m n : ℕ) (a b : Seat) → slice_get (world_after s front).seats m ≡ Some a → slice_get (world_after s (front ++ back)).seats n ≡ Some b
    → (member_in s a).epoch ≡ (member_in s b).epoch → ShareAlike (member_in s a) (member_in s b)
