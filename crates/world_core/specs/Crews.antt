-- The members of a committee as they stand. Source: this profile.
use Rattle.std.specs.Prelude.{◌≡◌, ℕ, Bool, false, List, Option, Some, None, Result, Ok, Err, map, slice_get, if◌then◌else◌}
use Rattle.chain_types.specs.declared.objects.Object.{Object}
use Rattle.protocol_spec.specs.Member.Member.{fork_of, live_objects}
use Rattle.world_spec.specs.Terms.{Terms}
use Rattle.world_spec.specs.Seats.{Seated}
use Rattle.protocol_spec.specs.Chain.Certificates.{Rules}
use Rattle.protocol_spec.specs.Member.Calls.{Call}
use Rattle.world_spec.specs.Posts.{Post, post_honest, changed_at, post_behind, posts_behind, reached_post, seat_at}

-- the terms of the committee, and its members
pub record Crew : Type 0 where
  pub terms : Terms
  pub posts : List Post

-- if a member stands here, it has this number and these terms, and is up; `None` stands for a member that is down
abbrev pub IsPlaced : Terms → ℕ → Option Seated → Type 0
IsPlaced terms m None = Unit {0}
IsPlaced terms m (Some seat) = seat ≡ seat_at terms m seat.state

abbrev pub IsPlacedPost : Terms → ℕ → Option Post → Type 0
IsPlacedPost terms m None = Unit {0}
IsPlacedPost terms m (Some p) = IsPlaced terms m p.standing

-- each member that stands has its place as its number
abbrev pub ArePlaced : Terms → List Post → Type 0
ArePlaced terms posts = (m : ℕ) → IsPlacedPost terms m (slice_get posts m)

abbrev pub honest_flags : List Post → List Bool
honest_flags posts = map post_honest posts

-- the member at this place, if it is there, honest and up
abbrev pub honest_at : Option Post → Option Seated
honest_at None = None
honest_at (Some p) = if p.honest then p.standing else None

-- whether the member at this place is honest, up or not; false if none is there
abbrev pub honest_post : Option Post → Bool
honest_post None = false
honest_post (Some p) = p.honest

-- the epoch of a member that is up, 0 for one that is down
abbrev pub epoch_of : Option Seated → ℕ
epoch_of None = 0
epoch_of (Some seat) = seat.state.epoch

-- what a `show` line reports of a member that is up: its epoch, and its live objects
abbrev pub shown_of : Seated → ℕ × List Object
shown_of seat = (seat.state.epoch, live_objects seat.state)

-- ---- faults

-- a member after a fault of the keeper or running out of memory is down
abbrev pub fallen : Post → Post
fallen p = record p { standing = None }

abbrev pub fallen_at : List Post → ℕ → List Post
fallen_at posts m = changed_at posts m fallen (slice_get posts m)

-- a member that is up and met no fork; only a call to such a member may end by running out of memory
abbrev pub IsAble : Option Seated → Type 0
IsAble None = ⊥
IsAble (Some seat) = fork_of seat.state ≡ None

-- a member after a call with this result: as the definition has it after the call if it was completed, down after a
-- fault
abbrev pub PostAfter : {A E : Type 0} → Rules → Call → Post → Post → Result A E → Type 0
PostAfter r call old new (Ok a) = new ≡ post_behind r call old (reached_post r call (Some old))
PostAfter r call old new (Err e) = new ≡ fallen old

abbrev pub PostsAfter : {A E : Type 0} → Rules → Call → ℕ → List Post → List Post → Result A E → Type 0
PostsAfter r call m old new (Ok a) = new ≡ posts_behind r old m call
PostsAfter r call m old new (Err e) = new ≡ fallen_at old m
