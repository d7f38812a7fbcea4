use Rattle.headline_law.proofs.Once.{final-agreed}
use Rattle.headline_law.proofs.finality.final_is_agreed.Goals as goal

pub returns : goal.returns
returns c = final-agreed
