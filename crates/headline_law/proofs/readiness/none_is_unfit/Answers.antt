use Rattle.headline_law.proofs.Ready.{none-unfit}
use Rattle.headline_law.proofs.readiness.none_is_unfit.Goals as goal

pub returns : goal.returns
returns c = none-unfit
