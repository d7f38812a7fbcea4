-- Which members are honest and up in a world. Source: this profile.
use Rattle.std.specs.Prelude.{ℕ, List, Option, option_map, slice_get}
use Rattle.protocol_spec.specs.Member.Member.{Member}
use Rattle.world_spec.specs.Setting.{Setting}
use Rattle.world_spec.specs.World.{World}
use Rattle.world_spec.specs.Seats.{Seated}
use Rattle.world_spec.specs.Posts.{Post}
use Rattle.world_core.specs.Crews.{honest_at}
use Rattle.committee_core.specs.Follow.{state_in}

-- the state of each member that is honest and up, by its number
abbrev pub States : Type 0
States = ℕ → Option Member

-- these states in the definition's world
abbrev pub states_of : Setting → World → States
states_of s w = λ m. state_in s (slice_get w.seats m)

-- these states in the code's posts
abbrev pub states_in : List Post → States
states_in posts = λ m. option_map (λ (seat : Seated). seat.state) (honest_at (slice_get posts m))
