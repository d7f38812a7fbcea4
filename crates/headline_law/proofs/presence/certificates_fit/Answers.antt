use Rattle.headline_law.proofs.Whole.{certificates-fit}
use Rattle.headline_law.proofs.presence.certificates_fit.Goals as goal

pub returns : goal.returns
returns c = certificates-fit
