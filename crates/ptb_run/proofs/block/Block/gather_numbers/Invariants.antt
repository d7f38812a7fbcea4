use Rattle.std.proofs.Common.{◌≡◌, true, [], length}
use Rattle.std.specs.List.{list_all}
use Rattle.protocol_spec.specs.Block.Commands as commands
use Rattle.ptb_run.specs.Blocks.{block_of}
use Rattle.ptb_run.specs.Gathering.{numbers_after}
use Rattle.ptb_run.specs.Takes.{is_taken}
use Rattle.ptb_run.proofs.block.Block.gather_numbers.Given as goal

-- what was gathered, and then what is left, is the whole, and is numbers
abbrev pub invariant-loop-rest : goal.invariant-loop-rest
invariant-loop-rest l = record {
  same : numbers_after (block_of l.self) l.numbers l.rest ≡ numbers_after (block_of l.self) [] l.args;
  taken : list_all (is_taken (block_of l.self)) (commands.all_by commands.number l.rest) ≡ true;
}

abbrev pub decreases-loop-rest : goal.decreases-loop-rest
decreases-loop-rest l = length l.rest
