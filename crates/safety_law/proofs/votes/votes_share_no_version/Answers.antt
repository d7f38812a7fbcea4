use Rattle.safety_law.proofs.Apart.{votes-apart}
use Rattle.safety_law.proofs.votes.votes_share_no_version.Goals as goal

pub returns : goal.returns
returns c = votes-apart
