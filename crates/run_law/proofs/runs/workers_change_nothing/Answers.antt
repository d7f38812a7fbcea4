use Rattle.run_law.proofs.Workers.{change_nothing}
use Rattle.run_law.proofs.runs.workers_change_nothing.Goals as goal

pub returns : goal.returns
returns c = change_nothing
