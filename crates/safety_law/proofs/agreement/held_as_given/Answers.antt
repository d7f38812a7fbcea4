use Rattle.safety_law.proofs.Supply.{every-held}
use Rattle.safety_law.proofs.agreement.held_as_given.Goals as goal

pub returns : goal.returns
returns c = every-held
