use Rattle.headline_law.proofs.Standing.{stands-in-schedules}
use Rattle.headline_law.proofs.finality.final_stands_in_schedules.Goals as goal

pub returns : goal.returns
returns c = stands-in-schedules
