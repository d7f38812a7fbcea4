use Rattle.safety_law.proofs.Once.{voted-alike}
use Rattle.safety_law.proofs.votes.votes_name_one_origins.Goals as goal

pub returns : goal.returns
returns c = voted-alike
