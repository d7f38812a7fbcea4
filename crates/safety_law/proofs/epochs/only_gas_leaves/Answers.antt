use Rattle.safety_law.proofs.Sums.{only-gas}
use Rattle.safety_law.proofs.epochs.only_gas_leaves.Goals as goal

pub returns : goal.returns
returns c = λ s events honest distinct. only-gas s events honest distinct
