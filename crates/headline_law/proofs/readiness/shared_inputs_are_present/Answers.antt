use Rattle.headline_law.proofs.AssignedShared.{shared-present}
use Rattle.headline_law.proofs.readiness.shared_inputs_are_present.Goals as goal

pub returns : goal.returns
returns c = shared-present
