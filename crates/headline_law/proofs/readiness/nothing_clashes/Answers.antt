use Rattle.headline_law.proofs.Keys.{nothing-clashes}
use Rattle.headline_law.proofs.readiness.nothing_clashes.Goals as goal

pub returns : goal.returns
returns c = nothing-clashes
