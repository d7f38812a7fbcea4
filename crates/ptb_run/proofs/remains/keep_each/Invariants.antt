use Rattle.std.proofs.Common.{◌≡◌, [], length}
use Rattle.ptb_run.specs.Blocks.{block_of}
use Rattle.ptb_run.specs.Remains.{kept_after}
use Rattle.ptb_run.proofs.remains.keep_each.Given as goal

-- what was kept, and then what is left, is the whole
abbrev pub invariant-loop-rest : goal.invariant-loop-rest
invariant-loop-rest l = kept_after l.version l.left.entries (block_of l.block) l.objects l.rest ≡ kept_after l.version l.left.entries (block_of l.block) [] l.moved

abbrev pub decreases-loop-rest : goal.decreases-loop-rest
decreases-loop-rest l = length l.rest
