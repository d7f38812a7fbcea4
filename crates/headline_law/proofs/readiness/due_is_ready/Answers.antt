use Rattle.headline_law.proofs.Due.{due-is-ready}
use Rattle.headline_law.proofs.readiness.due_is_ready.Goals as goal

pub returns : goal.returns
returns c = due-is-ready
