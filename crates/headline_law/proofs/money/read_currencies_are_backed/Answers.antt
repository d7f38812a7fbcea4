use Rattle.headline_law.proofs.ReadAmounts.{read-backed}
use Rattle.headline_law.proofs.money.read_currencies_are_backed.Goals as goal

pub returns : goal.returns
returns c = read-backed
