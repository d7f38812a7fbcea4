use Rattle.std.proofs.Common.{◌≡◌, ◌+◌, ◌*◌, ◌≤◌, false, length}
use Rattle.std.specs.List.{list_any}
use Rattle.protocol_spec.specs.Block.Execution.{commands_from}
use Rattle.protocol_spec.specs.Chain.Shape.{is_no_native}
use Rattle.ptb_run.specs.Blocks.{block_of, rows_of}
use Rattle.ptb_run.specs.Outcomes.{is_wide}
use Rattle.ptb_run.proofs.run.run_commands.Given as goal

-- what is left to run gives what the whole does
abbrev pub invariant-loop-rest : goal.invariant-loop-rest
invariant-loop-rest l = record {
  same : commands_from l.tx l.site.tx l.site.version l.number l.rest (block_of l.block) ≡ commands_from l.tx l.site.tx l.site.version 0 l.commands (block_of l.initial.block);
  known : list_any is_no_native l.rest ≡ false;
  few : list_any is_wide l.rest ≡ false;
  short : l.number + length l.rest ≤ 1024;
  rows : rows_of l.block ≡ l.number;
  made : (block_of l.block).made ≤ 512 * l.number;
}

abbrev pub decreases-loop-rest : goal.decreases-loop-rest
decreases-loop-rest l = length l.rest
