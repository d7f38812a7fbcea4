use Rattle.std.proofs.Common.{◌≡◌, ◌+◌, ◌<◌, ◌^◌, length}
use Rattle.protocol_spec.specs.Block.Commands.{items_in, sum_of}
use Rattle.ptb_run.specs.Blocks.{block_of}
use Rattle.ptb_run.proofs.commands.sum_from.Given as goal

abbrev pub invariant-loop-rest : goal.invariant-loop-rest
invariant-loop-rest l = record {
  same : l.total + sum_of (items_in (block_of l.block) l.rest) ≡ l.start + sum_of (items_in (block_of l.block) l.sources);
  fits : l.total < 2 ^ 64;
}

abbrev pub decreases-loop-rest : goal.decreases-loop-rest
decreases-loop-rest l = length l.rest
