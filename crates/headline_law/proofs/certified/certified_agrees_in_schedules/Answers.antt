use Rattle.headline_law.proofs.Agreeing.{agrees-in-schedules}
use Rattle.headline_law.proofs.certified.certified_agrees_in_schedules.Goals as goal

pub returns : goal.returns
returns c = agrees-in-schedules
