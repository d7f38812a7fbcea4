use Rattle.safety_law.proofs.Sums.{set-up-capless}
use Rattle.safety_law.proofs.epochs.set_up_has_no_gas_cap.Goals as goal

pub returns : goal.returns
returns c = set-up-capless
