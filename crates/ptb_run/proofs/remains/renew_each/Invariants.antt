use Rattle.std.proofs.Common.{◌≡◌, [], length}
use Rattle.ptb_run.specs.Remains.{same_after}
use Rattle.ptb_run.proofs.remains.renew_each.Given as goal

-- what was gathered, and then what is left, is the whole
abbrev pub invariant-loop-rest : goal.invariant-loop-rest
invariant-loop-rest l = same_after l.version l.objects l.rest ≡ same_after l.version [] l.moved

abbrev pub decreases-loop-rest : goal.decreases-loop-rest
decreases-loop-rest l = length l.rest
