use Rattle.headline_law.proofs.Finishing.{runs-build-all}
use Rattle.headline_law.proofs.readiness.runs_build_all.Goals as goal

pub returns : goal.returns
returns c = runs-build-all
