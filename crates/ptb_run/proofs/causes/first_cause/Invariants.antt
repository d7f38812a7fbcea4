use Rattle.std.proofs.Common.{◌≡◌, [], length}
use Rattle.ptb_run.specs.Blocks.{block_of}
use Rattle.ptb_run.specs.Causes.{causes_after}
use Rattle.ptb_run.proofs.causes.first_cause.Given as goal

-- what is left, after what was seen, has the cause of the whole
abbrev pub invariant-loop-rest : goal.invariant-loop-rest
invariant-loop-rest l = causes_after l.tx (block_of l.block) l.command l.seen.keys l.rest ≡ causes_after l.tx (block_of l.block) l.command [] l.wanted

abbrev pub decreases-loop-rest : goal.decreases-loop-rest
decreases-loop-rest l = length l.rest
