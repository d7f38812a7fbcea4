use Rattle.safety_law.proofs.Forks.{no-fork}
use Rattle.safety_law.proofs.owners.no_fork_is_met.Goals as goal

pub returns : goal.returns
returns c = no-fork
