use Rattle.headline_law.proofs.Handing.{can-be-followed-in-schedules, followed-in-schedules, only-memory-in-schedules}
use Rattle.headline_law.proofs.followers.honest_checkpoints_are_followed_in_schedules.Goals as goal

pub returns-clause-applied : goal.returns-clause-applied
returns-clause-applied c = followed-in-schedules

pub returns-clause-memory : goal.returns-clause-memory
returns-clause-memory c = only-memory-in-schedules

pub returns-clause-known : goal.returns-clause-known
returns-clause-known c = can-be-followed-in-schedules
