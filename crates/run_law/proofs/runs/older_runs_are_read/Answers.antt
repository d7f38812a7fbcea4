use Rattle.run_law.proofs.Older.{older_read}
use Rattle.run_law.proofs.runs.older_runs_are_read.Goals as goal

pub returns : goal.returns
returns c = older_read
