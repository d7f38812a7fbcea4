use Rattle.safety_law.proofs.Unforged.{unforged}
use Rattle.safety_law.proofs.owners.nothing_is_forged.Goals as goal

pub returns : goal.returns
returns c = unforged
