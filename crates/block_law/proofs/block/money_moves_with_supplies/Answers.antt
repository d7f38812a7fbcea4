use Rattle.block_law.proofs.Keeping.{money_moves}
use Rattle.block_law.proofs.block.money_moves_with_supplies.Goals as goal

pub returns : goal.returns
returns c = money_moves
