use Rattle.safety_law.proofs.Voted.{certified-is}
use Rattle.safety_law.proofs.owners.certified_is_formed_or_valid.Goals as goal

pub returns : goal.returns
returns c = certified-is
