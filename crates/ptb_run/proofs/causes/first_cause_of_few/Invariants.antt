use Rattle.std.proofs.Common.{◌≡◌, ◌+◌, length}
use Rattle.ptb_run.specs.Blocks.{block_of}
use Rattle.ptb_run.specs.Causes.{causes_at}
use Rattle.ptb_run.proofs.causes.first_cause_of_few.Given as goal

-- what is left has the cause of the whole
abbrev pub invariant-loop-rest : goal.invariant-loop-rest
invariant-loop-rest l = record {
  same : causes_at l.tx (block_of l.block) l.command l.wanted l.place l.rest ≡ causes_at l.tx (block_of l.block) l.command l.wanted 0 l.wanted;
  whole : l.place + length l.rest ≡ length l.wanted;
}

abbrev pub decreases-loop-rest : goal.decreases-loop-rest
decreases-loop-rest l = length l.rest
