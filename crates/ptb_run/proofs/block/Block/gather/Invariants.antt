use Rattle.std.proofs.Common.{◌≡◌, [], length}
use Rattle.ptb_run.specs.Blocks.{block_of}
use Rattle.ptb_run.specs.Gathering.{items_after}
use Rattle.ptb_run.proofs.block.Block.gather.Given as goal

-- what was gathered, and then what is left, is the whole
abbrev pub invariant-loop-rest : goal.invariant-loop-rest
invariant-loop-rest l = items_after (block_of l.self) l.items l.rest ≡ items_after (block_of l.self) [] l.args

abbrev pub decreases-loop-rest : goal.decreases-loop-rest
decreases-loop-rest l = length l.rest
