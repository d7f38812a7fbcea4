use Rattle.headline_law.proofs.Keeping.{runs-execute-ready}
use Rattle.headline_law.proofs.readiness.runs_execute_ready.Goals as goal

pub returns : goal.returns
returns c = runs-execute-ready
