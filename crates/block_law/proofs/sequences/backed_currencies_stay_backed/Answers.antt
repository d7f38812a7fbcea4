use Rattle.block_law.proofs.Following.{stay_backed}
use Rattle.block_law.proofs.sequences.backed_currencies_stay_backed.Goals as goal

pub returns : goal.returns
returns c = stay_backed
