use Rattle.headline_law.proofs.Present.{owned-present}
use Rattle.headline_law.proofs.presence.owned_inputs_are_present.Goals as goal

pub returns : goal.returns
returns c = owned-present
