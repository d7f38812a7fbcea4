use Rattle.safety_law.proofs.Owner.{origins}
use Rattle.safety_law.proofs.owners.one_list_of_origins.Goals as goal

pub returns : goal.returns
returns c = origins
