use Rattle.std.proofs.Common.{◌≡◌, drop}
use Rattle.world_spec.specs.Known.{world_with}
use Rattle.world_lines.specs.Pushed.{each_pushed}
use Rattle.world_lines.specs.Answers.{reverted_line}
use Rattle.world_lines.proofs.epochs.add_reverted.Given as goal

-- the rest of the loop adds what is missing
abbrev pub invariant-loop-tx : goal.invariant-loop-tx
invariant-loop-tx l = each_pushed (reverted_line (world_with l.directory)) l.lines (drop l.tx-index l.txs) ≡ each_pushed (reverted_line (world_with l.directory)) l.fn.lines l.txs
