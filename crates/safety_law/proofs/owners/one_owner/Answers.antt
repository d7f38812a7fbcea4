use Rattle.safety_law.proofs.Owner.{owner}
use Rattle.safety_law.proofs.owners.one_owner.Goals as goal

pub returns : goal.returns
returns c = owner
