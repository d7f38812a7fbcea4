use Rattle.std.proofs.Common.{◌≡◌, ◌+◌, ◌≤◌, [], length}
use Rattle.ptb_run.specs.Needs.{pairs_after}
use Rattle.ptb_run.proofs.needs.pair_each.Given as goal

-- what was paired, and then what is left, is the whole
abbrev pub invariant-loop-rest : goal.invariant-loop-rest
invariant-loop-rest l = record {
  same : pairs_after l.wanted l.native l.place l.rest ≡ pairs_after [] l.native 0 l.args;
  few : l.place + length l.rest ≤ 512;
}

abbrev pub decreases-loop-rest : goal.decreases-loop-rest
decreases-loop-rest l = length l.rest
