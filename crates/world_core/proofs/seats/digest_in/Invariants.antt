use Rattle.std.proofs.Common.{◌≡◌, length}
use Rattle.world_core.specs.Steps.{held_in}
use Rattle.world_core.proofs.seats.digest_in.Given as goal

-- what is left names what all name
abbrev pub invariant-loop-rest : goal.invariant-loop-rest
invariant-loop-rest l = held_in l.rest l.key ≡ held_in l.seats l.key

abbrev pub decreases-loop-rest : goal.decreases-loop-rest
decreases-loop-rest l = length l.rest
