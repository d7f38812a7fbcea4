use Rattle.headline_law.proofs.Looking.{looked-up-is-handed}
use Rattle.headline_law.proofs.followers.looked_up_is_handed.Goals as goal

pub returns : goal.returns
returns c = looked-up-is-handed
