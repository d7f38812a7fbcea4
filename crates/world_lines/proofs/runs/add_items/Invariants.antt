use Rattle.std.proofs.Common.{◌≡◌, drop}
use Rattle.checkpoint_core.specs.declared.checkpoints.Item.{Item}
use Rattle.world_spec.specs.Names.{tx_name}
use Rattle.world_spec.specs.Known.{world_with}
use Rattle.world_lines.specs.Pushed.{each_pushed}
use Rattle.world_lines.proofs.runs.add_items.Given as goal

-- the rest of the loop adds what is missing
abbrev pub invariant-loop-item : goal.invariant-loop-item
invariant-loop-item l = each_pushed (λ (i : Item). tx_name (world_with l.directory) i.tx) l.names (drop l.item-index l.items) ≡ each_pushed (λ (i : Item). tx_name (world_with l.directory) i.tx) l.fn.names l.items
