-- How many items a checkpoint has that can be encoded.
use Rattle.std.proofs.Common.{◌≤◌, length, arith}
use Rattle.checkpoint_core.specs.declared.checkpoints.Checkpoint.{Checkpoint}
use Rattle.checkpoint_core.specs.Checkpoints.{checkpoint}

pub few_items : (c : Checkpoint) → checkpoint.short c → length c.items ≤ 2147483647
unfolding checkpoint
few_items c short = omega (arith, short.1.1.1.0.0)
