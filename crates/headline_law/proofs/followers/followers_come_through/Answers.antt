use Rattle.headline_law.proofs.Catching.{followers-come-through}
use Rattle.headline_law.proofs.followers.followers_come_through.Goals as goal

pub returns : goal.returns
returns c = followers-come-through
