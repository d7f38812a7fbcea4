use Rattle.headline_law.proofs.Fitting.{owned-fit}
use Rattle.headline_law.proofs.presence.owned_inputs_fit.Goals as goal

pub returns : goal.returns
returns c = owned-fit
