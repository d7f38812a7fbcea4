use Rattle.headline_law.proofs.Thread.{thread-amounts}
use Rattle.headline_law.proofs.money.threads_keep_amounts.Goals as goal

pub returns : goal.returns
returns c = thread-amounts
