use Rattle.headline_law.proofs.Moments.{moment_is_promised}
use Rattle.headline_law.proofs.headline.Goals as goal

pub returns : goal.returns
returns c = moment_is_promised
