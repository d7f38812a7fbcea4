use Rattle.headline_law.proofs.Catching.{come-through-in-schedules}
use Rattle.headline_law.proofs.followers.followers_come_through_in_schedules.Goals as goal

pub returns : goal.returns
returns c = come-through-in-schedules
