use Rattle.block_law.proofs.Following.{moves}
use Rattle.block_law.proofs.sequences.money_moves_in_sequence.Goals as goal

pub returns : goal.returns
returns c = moves
