use Rattle.headline_law.proofs.Keys.{present-is-ready}
use Rattle.headline_law.proofs.readiness.present_is_ready.Goals as goal

pub returns : goal.returns
returns c = present-is-ready
