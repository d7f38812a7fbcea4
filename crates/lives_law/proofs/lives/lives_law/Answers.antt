use Rattle.lives_law.proofs.Standing.{nothing-back}
use Rattle.lives_law.proofs.lives.lives_law.Goals as goal

pub returns : goal.returns
returns c = nothing-back
