use Rattle.std.proofs.Common.{◌≡◌, [], length}
use Rattle.ptb_run.specs.Left.{firsts_after}
use Rattle.ptb_run.proofs.left.firsts_of.Given as goal

-- what was noted, and then what is left, is the whole
abbrev pub invariant-loop-rest : goal.invariant-loop-rest
invariant-loop-rest l = firsts_after l.left.entries l.rest ≡ firsts_after [] l.placed

abbrev pub decreases-loop-rest : goal.decreases-loop-rest
decreases-loop-rest l = length l.rest
