use Rattle.safety_law.proofs.Voted.{each-formed}
use Rattle.safety_law.proofs.owners.formed_is_voted_for.Goals as goal

pub returns : goal.returns
returns c = each-formed
