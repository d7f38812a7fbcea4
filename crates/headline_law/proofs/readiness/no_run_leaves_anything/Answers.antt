use Rattle.headline_law.proofs.Running.{no-run-leaves-anything}
use Rattle.headline_law.proofs.readiness.no_run_leaves_anything.Goals as goal

pub returns : goal.returns
returns c = no-run-leaves-anything
