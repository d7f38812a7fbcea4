use Rattle.headline_law.proofs.Openings.{gas-was-held}
use Rattle.headline_law.proofs.money.gas_was_held.Goals as goal

pub returns : goal.returns
returns c = gas-was-held
