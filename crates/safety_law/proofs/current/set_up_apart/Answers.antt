use Rattle.safety_law.proofs.SetUp.{set-up-apart}
use Rattle.safety_law.proofs.current.set_up_apart.Goals as goal

pub returns : goal.returns
returns c = set-up-apart
