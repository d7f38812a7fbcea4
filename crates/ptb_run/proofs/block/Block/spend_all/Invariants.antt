use Rattle.std.proofs.Common.{◌≡◌, length}
use Rattle.protocol_spec.specs.Block.Commands.{spend_all}
use Rattle.ptb_run.specs.Blocks.{block_of, rows_of}
use Rattle.ptb_run.proofs.block.Block.spend_all.Given as goal

-- what is left to spend gives what the whole does
abbrev pub invariant-loop-rest : goal.invariant-loop-rest
invariant-loop-rest l = record {
  same : spend_all l.rest (block_of l.self) ≡ spend_all l.args (block_of l.initial.self);
  rows : rows_of l.self ≡ rows_of l.initial.self;
}

abbrev pub decreases-loop-rest : goal.decreases-loop-rest
decreases-loop-rest l = length l.rest
