use Rattle.headline_law.proofs.Rounds.{nothing-ready}
use Rattle.headline_law.proofs.readiness.nothing_is_ready_behind_a_run.Goals as goal

pub returns : goal.returns
returns c = nothing-ready
