use Rattle.block_law.proofs.Following.{caps_stay}
use Rattle.block_law.proofs.sequences.caps_stay_in_sequence.Goals as goal

pub returns : goal.returns
returns c = caps_stay
