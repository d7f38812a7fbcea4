use Rattle.follower_core.proofs.Following.{all_followed, all_told}
use Rattle.follower_core.proofs.laws.applied_is_followed.Goals as goal

pub returns-clause-objects : goal.returns-clause-objects
returns-clause-objects c = λ opening handed applied. all_followed opening handed

pub returns-clause-effects : goal.returns-clause-effects
returns-clause-effects c = all_told
