use Rattle.safety_law.proofs.Sums.{set-up-backed}
use Rattle.safety_law.proofs.epochs.set_up_is_backed.Goals as goal

pub returns : goal.returns
returns c = set-up-backed
