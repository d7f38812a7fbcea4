use Rattle.block_law.proofs.Failing.{pays_gas}
use Rattle.block_law.proofs.block.a_failed_block_pays_gas.Goals as goal

pub returns : goal.returns
returns c = pays_gas
