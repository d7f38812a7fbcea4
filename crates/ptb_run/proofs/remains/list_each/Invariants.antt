use Rattle.std.proofs.Common.{◌≡◌, [], length}
use Rattle.ptb_run.specs.Remains.{listed_after}
use Rattle.ptb_run.proofs.remains.list_each.Given as goal

-- what was listed, and then what is left, is the whole
abbrev pub invariant-loop-rest : goal.invariant-loop-rest
invariant-loop-rest l = listed_after l.written l.rest ≡ listed_after [] l.objects

abbrev pub decreases-loop-rest : goal.decreases-loop-rest
decreases-loop-rest l = length l.rest
