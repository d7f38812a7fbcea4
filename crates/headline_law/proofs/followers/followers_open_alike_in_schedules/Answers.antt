use Rattle.headline_law.proofs.Handing.{opened-alike-in-schedules, stands-in-schedules}
use Rattle.headline_law.proofs.followers.followers_open_alike_in_schedules.Goals as goal

pub returns-clause-stands : goal.returns-clause-stands
returns-clause-stands c = stands-in-schedules

pub returns-clause-alike : goal.returns-clause-alike
returns-clause-alike c = opened-alike-in-schedules
