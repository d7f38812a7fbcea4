use Rattle.headline_law.proofs.Counting.{counted-stated}
use Rattle.headline_law.proofs.epochs.counted_is_stated.Goals as goal

pub returns : goal.returns
returns c = counted-stated
