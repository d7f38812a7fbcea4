use Rattle.headline_law.proofs.Completing.{runs-complete}
use Rattle.headline_law.proofs.readiness.runs_are_complete.Goals as goal

pub returns : goal.returns
returns c = runs-complete
