use Rattle.std.proofs.Common.{◌≡◌, length}
use Rattle.ptb_run.specs.Needs.{all_after}
use Rattle.ptb_run.proofs.needs.add_all.Given as goal

-- what was added, and then what is left, is the whole
abbrev pub invariant-loop-rest : goal.invariant-loop-rest
invariant-loop-rest l = all_after l.wanted l.need l.rest ≡ all_after l.initial.wanted l.need l.args

abbrev pub decreases-loop-rest : goal.decreases-loop-rest
decreases-loop-rest l = length l.rest
