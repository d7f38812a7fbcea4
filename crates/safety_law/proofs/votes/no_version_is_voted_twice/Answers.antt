use Rattle.safety_law.proofs.Once.{voted-once}
use Rattle.safety_law.proofs.votes.no_version_is_voted_twice.Goals as goal

pub returns : goal.returns
returns c = voted-once
