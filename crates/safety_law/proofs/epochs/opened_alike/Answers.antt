use Rattle.safety_law.proofs.Opened.{opened-alike}
use Rattle.safety_law.proofs.epochs.opened_alike.Goals as goal

pub returns : goal.returns
returns c = opened-alike
