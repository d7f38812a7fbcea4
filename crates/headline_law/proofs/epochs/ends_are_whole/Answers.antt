use Rattle.headline_law.proofs.Ending.{ends-whole}
use Rattle.headline_law.proofs.epochs.ends_are_whole.Goals as goal

pub returns : goal.returns
returns c = ends-whole
