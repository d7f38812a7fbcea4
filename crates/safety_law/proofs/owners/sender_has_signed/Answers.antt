use Rattle.safety_law.proofs.Owner.{signed}
use Rattle.safety_law.proofs.owners.sender_has_signed.Goals as goal

pub returns : goal.returns
returns c = signed
