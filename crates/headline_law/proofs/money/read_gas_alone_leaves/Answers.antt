use Rattle.headline_law.proofs.ReadAmounts.{read-gas}
use Rattle.headline_law.proofs.money.read_gas_alone_leaves.Goals as goal

pub returns : goal.returns
returns c = read-gas
