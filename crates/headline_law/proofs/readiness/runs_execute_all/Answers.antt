use Rattle.headline_law.proofs.Running.{runs-execute-all}
use Rattle.headline_law.proofs.readiness.runs_execute_all.Goals as goal

pub returns : goal.returns
returns c = runs-execute-all
