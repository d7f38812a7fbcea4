use Rattle.headline_law.proofs.Alike.{share-alike}
use Rattle.headline_law.proofs.readiness.versions_are_shared_alike.Goals as goal

pub returns : goal.returns
returns c = share-alike
