use Rattle.safety_law.proofs.Kept.{every-vote}
use Rattle.safety_law.proofs.votes.every_vote_is_kept.Goals as goal

pub returns : goal.returns
returns c = every-vote
