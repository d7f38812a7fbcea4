use Rattle.block_law.proofs.Keeping.{caps_kept}
use Rattle.block_law.proofs.block.caps_are_kept.Goals as goal

pub returns : goal.returns
returns c = caps_kept
