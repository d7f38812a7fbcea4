-- A checkpoint can be encoded exactly if its list is short.
use Rattle.std.proofs.Common.{◌<◌, length}
use Rattle.wire_bcs.specs.Digests.{digest}
use Rattle.wire_bcs.specs.Items.{length_limit}
use Rattle.checkpoint_core.specs.declared.checkpoints.Checkpoint.{Checkpoint}
use Rattle.checkpoint_core.specs.Checkpoints.{checkpoint, item}

pub few_short : (c : Checkpoint) → length c.items < length_limit → checkpoint.short c
unfolding checkpoint item digest
few_short c few = (tt, (tt, (tt, ((few, λ k d l. (tt, tt)), tt))))

pub short_few : (c : Checkpoint) → checkpoint.short c → length c.items < length_limit
unfolding checkpoint
short_few c short = short.1.1.1.0.0
