use Rattle.headline_law.proofs.Cast.{every-vote-was-cast}
use Rattle.headline_law.proofs.presence.every_vote_was_cast.Goals as goal

pub returns : goal.returns
returns c = every-vote-was-cast
