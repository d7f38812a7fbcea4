use Rattle.safety_law.proofs.Forks.{no-fork-called}
use Rattle.safety_law.proofs.owners.no_call_meets_a_fork.Goals as goal

pub returns : goal.returns
returns c = no-fork-called
