use Rattle.std.proofs.Common.{◌≡◌, length}
use Rattle.follower_core.specs.Steps.{named_after}
use Rattle.follower_core.proofs.standing.add_named.Given as goal

-- from here the loop gives what the whole loop gives
abbrev pub invariant-loop-rest : goal.invariant-loop-rest
invariant-loop-rest l = named_after l.ids.keys l.rest ≡ named_after l.fn.ids.keys l.inputs

abbrev pub decreases-loop-rest : goal.decreases-loop-rest
decreases-loop-rest l = length l.rest
