use Rattle.safety_law.proofs.Known.{opens-apart}
use Rattle.safety_law.proofs.current.epochs_open_apart.Goals as goal

pub returns : goal.returns
returns c = opens-apart
