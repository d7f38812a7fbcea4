use Rattle.safety_law.proofs.OneList.{built-is-of-thread}
use Rattle.safety_law.proofs.epochs.built_is_of_thread.Goals as goal

pub returns : goal.returns
returns c = built-is-of-thread
