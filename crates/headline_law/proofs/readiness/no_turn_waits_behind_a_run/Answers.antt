use Rattle.headline_law.proofs.Finishing.{no-turn-waits}
use Rattle.headline_law.proofs.readiness.no_turn_waits_behind_a_run.Goals as goal

pub returns : goal.returns
returns c = no-turn-waits
