use Rattle.headline_law.proofs.Written.{amounts-stay}
use Rattle.headline_law.proofs.money.amounts_stay_amounts.Goals as goal

pub returns : goal.returns
returns c = amounts-stay
