use Rattle.safety_law.proofs.Sums.{are-backed}
use Rattle.safety_law.proofs.epochs.currencies_are_backed.Goals as goal

pub returns : goal.returns
returns c = λ s events honest distinct. are-backed s events honest distinct
