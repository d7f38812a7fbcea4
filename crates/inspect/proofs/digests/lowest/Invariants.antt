use Rattle.std.proofs.Common.{◌≡◌, ◌<◌, ℕ, None}
use Rattle.inspect.specs.Standing.{states_in}
use Rattle.inspect.proofs.digests.lowest.Given as goal

abbrev pub invariant-loop-member : goal.invariant-loop-member
invariant-loop-member l = (i : ℕ) → i < l.member → states_in l.world.posts i ≡ None
