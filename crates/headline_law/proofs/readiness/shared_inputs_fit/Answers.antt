use Rattle.headline_law.proofs.Ready.{shared-fit}
use Rattle.headline_law.proofs.readiness.shared_inputs_fit.Goals as goal

pub returns : goal.returns
returns c = shared-fit
