use Rattle.std.proofs.Common.{◌≡◌, drop}
use Rattle.world_spec.specs.Names.{tx_name}
use Rattle.world_spec.specs.Known.{world_with}
use Rattle.world_lines.specs.Pushed.{each_pushed}
use Rattle.world_lines.proofs.words.add_names.Given as goal

-- the rest of the loop adds what is missing
abbrev pub invariant-loop-tx : goal.invariant-loop-tx
invariant-loop-tx l = each_pushed (tx_name (world_with l.directory)) l.names (drop l.tx-index l.txs) ≡ each_pushed (tx_name (world_with l.directory)) l.fn.names l.txs
