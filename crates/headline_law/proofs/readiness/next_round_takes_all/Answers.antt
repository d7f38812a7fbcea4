use Rattle.headline_law.proofs.Due.{next-round-takes-all}
use Rattle.headline_law.proofs.readiness.next_round_takes_all.Goals as goal

pub returns : goal.returns
returns c = next-round-takes-all
