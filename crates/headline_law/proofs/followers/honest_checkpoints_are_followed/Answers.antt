use Rattle.headline_law.proofs.Handing.{can-be-followed, followed, only-memory}
use Rattle.headline_law.proofs.followers.honest_checkpoints_are_followed.Goals as goal

pub returns-clause-applied : goal.returns-clause-applied
returns-clause-applied c = followed

pub returns-clause-memory : goal.returns-clause-memory
returns-clause-memory c = only-memory

pub returns-clause-known : goal.returns-clause-known
returns-clause-known c = can-be-followed
