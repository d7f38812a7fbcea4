use Rattle.headline_law.proofs.Standing.{final-stands}
use Rattle.headline_law.proofs.finality.final_stands.Goals as goal

pub returns : goal.returns
returns c = final-stands
