use Rattle.headline_law.proofs.Written.{money-stays}
use Rattle.headline_law.proofs.money.money_stays_amounts.Goals as goal

pub returns : goal.returns
returns c = money-stays
