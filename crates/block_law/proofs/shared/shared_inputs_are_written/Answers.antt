use Rattle.block_law.proofs.Places.{shared-written}
use Rattle.block_law.proofs.shared.shared_inputs_are_written.Goals as goal

pub returns : goal.returns
returns c = shared-written
