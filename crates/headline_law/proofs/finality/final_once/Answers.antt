use Rattle.headline_law.proofs.Once.{final-once}
use Rattle.headline_law.proofs.finality.final_once.Goals as goal

pub returns : goal.returns
returns c = final-once
