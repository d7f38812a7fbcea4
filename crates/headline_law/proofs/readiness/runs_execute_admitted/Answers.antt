use Rattle.headline_law.proofs.Finishing.{runs-execute-admitted}
use Rattle.headline_law.proofs.readiness.runs_execute_admitted.Goals as goal

pub returns : goal.returns
returns c = runs-execute-admitted
