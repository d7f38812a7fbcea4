use Rattle.headline_law.proofs.Due.{next-round-takes-due}
use Rattle.headline_law.proofs.readiness.next_round_takes_due.Goals as goal

pub returns : goal.returns
returns c = next-round-takes-due
