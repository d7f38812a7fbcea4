use Rattle.std.proofs.Common.{◌≡◌, ◌+◌, ◌++◌, length}
use Rattle.world_spec.specs.Posts.{new_posts}
use Rattle.world_core.proofs.seats.new_seats.Given as goal

-- the members that are made, and those that are left, make up all
abbrev pub invariant-loop-rest : goal.invariant-loop-rest
invariant-loop-rest g l = record {
  same : l.seats.items ++ new_posts l.terms l.opening l.member l.rest ≡ new_posts l.terms l.opening 0 l.honest;
  count : l.member + length l.rest ≡ length l.honest;
}

abbrev pub decreases-loop-rest : goal.decreases-loop-rest
decreases-loop-rest g l = length l.rest
