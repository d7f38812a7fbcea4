use Rattle.block_law.proofs.Tidy.{tidy-seen}
use Rattle.block_law.proofs.admissions.admitted_in_order.Goals as goal

pub returns : goal.returns
returns c = tidy-seen
