use Rattle.block_law.proofs.Keeping.{gas_kept}
use Rattle.block_law.proofs.block.gas_currency_is_kept.Goals as goal

pub returns : goal.returns
returns c = gas_kept
