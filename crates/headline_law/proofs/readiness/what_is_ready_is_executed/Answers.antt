use Rattle.headline_law.proofs.Completing.{what-is-ready}
use Rattle.headline_law.proofs.readiness.what_is_ready_is_executed.Goals as goal

pub returns : goal.returns
returns c = what-is-ready
