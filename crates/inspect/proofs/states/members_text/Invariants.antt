use Rattle.std.proofs.Common.{◌≡◌, ◌++◌, drop}
use Rattle.world_core.specs.Crews.{honest_flags}
use Rattle.inspect.specs.Standing.{states_in}
use Rattle.inspect.specs.StateLines.{states_text}
use Rattle.inspect.proofs.states.members_text.Given as goal

-- with the members that are left the text is that of all
abbrev pub invariant-loop-member : goal.invariant-loop-member
invariant-loop-member l = l.text ++ states_text l.world.known (states_in l.world.posts) l.member (drop l.member (honest_flags l.world.posts)) ≡ states_text l.world.known (states_in l.world.posts) 0 (honest_flags l.world.posts)
