use Rattle.headline_law.proofs.ReadAmounts.{set-up-amounts}
use Rattle.headline_law.proofs.money.read_set_ups_are_amounts.Goals as goal

pub returns : goal.returns
returns c = set-up-amounts
