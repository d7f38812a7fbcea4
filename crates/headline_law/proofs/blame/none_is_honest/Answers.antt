use Rattle.headline_law.proofs.Sound.{none-honest}
use Rattle.headline_law.proofs.blame.none_is_honest.Goals as goal

pub returns : goal.returns
returns c = none-honest
