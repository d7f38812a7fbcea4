use Rattle.std.proofs.Common.{◌≡◌, length, map}
use Rattle.protocol_spec.specs.Block.Commands as commands
use Rattle.ptb_run.specs.Blocks.{block_of, rows_of}
use Rattle.ptb_run.specs.Needs.{wanted_of}
use Rattle.ptb_run.proofs.calls.spend_taken.Given as goal

abbrev pub invariant-loop-rest : goal.invariant-loop-rest
invariant-loop-rest l = record {
  same : commands.spend_taken (map wanted_of l.rest) (block_of l.block) ≡ commands.spend_taken (map wanted_of l.wanted) (block_of l.initial.block);
  rows : rows_of l.block ≡ rows_of l.initial.block;
}

abbrev pub decreases-loop-rest : goal.decreases-loop-rest
decreases-loop-rest l = length l.rest
