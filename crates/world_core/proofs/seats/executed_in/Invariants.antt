use Rattle.std.proofs.Common.{◌≡◌, length}
use Rattle.world_core.specs.Steps.{says_in}
use Rattle.world_spec.specs.Step.{executed_digest}
use Rattle.world_core.proofs.seats.executed_in.Given as goal

-- what is left says what all say
abbrev pub invariant-loop-rest : goal.invariant-loop-rest
invariant-loop-rest l = says_in (executed_digest l.tx) l.rest ≡ says_in (executed_digest l.tx) l.seats

abbrev pub decreases-loop-rest : goal.decreases-loop-rest
decreases-loop-rest l = length l.rest
