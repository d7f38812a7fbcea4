use Rattle.headline_law.proofs.Going.{ready-is-executed}
use Rattle.headline_law.proofs.reports.ready_is_always_executed.Goals as goal

pub returns : goal.returns
returns c = ready-is-executed
