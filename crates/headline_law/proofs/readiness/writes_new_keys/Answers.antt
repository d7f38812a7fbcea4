use Rattle.headline_law.proofs.Keys.{writes-new-keys}
use Rattle.headline_law.proofs.readiness.writes_new_keys.Goals as goal

pub returns : goal.returns
returns c = writes-new-keys
