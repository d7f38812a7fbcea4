use Rattle.std.proofs.Common.{◌≡◌, [], length}
use Rattle.ptb_run.specs.Blocks.{block_of}
use Rattle.ptb_run.specs.Remains.{gone_after}
use Rattle.ptb_run.proofs.remains.drop_each.Given as goal

-- what was gathered, and then what is left, is the whole
abbrev pub invariant-loop-rest : goal.invariant-loop-rest
invariant-loop-rest l = gone_after l.version l.left.entries (block_of l.block) l.ids l.rest ≡ gone_after l.version l.left.entries (block_of l.block) [] l.moved

abbrev pub decreases-loop-rest : goal.decreases-loop-rest
decreases-loop-rest l = length l.rest
