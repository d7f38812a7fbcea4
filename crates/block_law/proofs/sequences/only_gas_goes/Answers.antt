use Rattle.block_law.proofs.Following.{gas_goes}
use Rattle.block_law.proofs.sequences.only_gas_goes.Goals as goal

pub returns : goal.returns
returns c = gas_goes
