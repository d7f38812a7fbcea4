use Rattle.std.proofs.Common.{◌≡◌, true, [], length, map}
use Rattle.std.specs.List.{list_all}
use Rattle.ptb_run.specs.Blocks.{block_of}
use Rattle.ptb_run.specs.Needs.{wanted_of}
use Rattle.ptb_run.specs.Takes.{givens_after, is_taken}
use Rattle.ptb_run.proofs.calls.give_each.Given as goal

abbrev pub invariant-loop-rest : goal.invariant-loop-rest
invariant-loop-rest l = record {
  same : givens_after (block_of l.block) l.givens l.rest ≡ givens_after (block_of l.block) [] l.wanted;
  taken : list_all (is_taken (block_of l.block)) (map wanted_of l.rest) ≡ true;
}

abbrev pub decreases-loop-rest : goal.decreases-loop-rest
decreases-loop-rest l = length l.rest
