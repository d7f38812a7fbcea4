use Rattle.headline_law.proofs.Openings.{openings-hold}
use Rattle.headline_law.proofs.money.openings_hold_amounts.Goals as goal

pub returns : goal.returns
returns c = openings-hold
