use Rattle.headline_law.proofs.Waiting.{nothing-free}
use Rattle.headline_law.proofs.epochs.nothing_free_waits.Goals as goal

pub returns : goal.returns
returns c = nothing-free
