use Rattle.safety_law.proofs.Voted.{certified-voted}
use Rattle.safety_law.proofs.owners.certified_is_voted_for.Goals as goal

pub returns : goal.returns
returns c = certified-voted
