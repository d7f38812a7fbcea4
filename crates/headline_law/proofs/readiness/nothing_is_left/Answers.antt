use Rattle.headline_law.proofs.Due.{nothing-is-left}
use Rattle.headline_law.proofs.readiness.nothing_is_left.Goals as goal

pub returns : goal.returns
returns c = nothing-is-left
