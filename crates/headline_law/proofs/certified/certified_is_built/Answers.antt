use Rattle.headline_law.proofs.Agreeing.{certified-built}
use Rattle.headline_law.proofs.certified.certified_is_built.Goals as goal

pub returns : goal.returns
returns c = certified-built
