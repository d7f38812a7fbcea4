use Rattle.safety_law.proofs.Fronts.{honest-front}
use Rattle.safety_law.proofs.owners.fronts_are_honest.Goals as goal

pub returns : goal.returns
returns c = honest-front
