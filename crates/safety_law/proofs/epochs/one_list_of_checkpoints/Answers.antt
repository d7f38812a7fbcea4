use Rattle.safety_law.proofs.OneList.{one-list}
use Rattle.safety_law.proofs.epochs.one_list_of_checkpoints.Goals as goal

pub returns : goal.returns
returns c = one-list
