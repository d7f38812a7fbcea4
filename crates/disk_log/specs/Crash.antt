-- What a crash leaves, byte by byte. Source: this profile.
use Rattle.std.specs.Prelude.{◌≡◌, ℕ, ◌<◌, List, length, slice_index}
use Rattle.disk_log.specs.declared.moment.Moment.{Moment}
use Rattle.disk_log.specs.Disk.{IsOutside}

-- a crash may leave this byte at offset k: any byte inside a touched range or past the stable size, else the stable
-- one
abbrev pub MayStand : Moment → ℕ → ℕ → Type 0
MayStand m k byte = k < length m.stable → IsOutside m.ranges k → byte ≡ slice_index m.stable k

-- these bytes may be the first ones of a file that a crash leaves
abbrev pub MayBegin : Moment → List ℕ → Type 0
MayBegin m bytes = (k : ℕ) → k < length bytes → MayStand m k (slice_index bytes k)
