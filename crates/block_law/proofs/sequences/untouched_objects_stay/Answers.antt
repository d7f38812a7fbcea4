use Rattle.block_law.proofs.Staying.{stays}
use Rattle.block_law.proofs.sequences.untouched_objects_stay.Goals as goal

pub returns : goal.returns
returns c = stays
