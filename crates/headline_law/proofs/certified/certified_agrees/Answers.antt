use Rattle.headline_law.proofs.Agreeing.{certified-agrees}
use Rattle.headline_law.proofs.certified.certified_agrees.Goals as goal

pub returns : goal.returns
returns c = certified-agrees
