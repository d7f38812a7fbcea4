use Rattle.safety_law.proofs.Supply.{every-admission}
use Rattle.safety_law.proofs.agreement.every_admission.Goals as goal

pub returns : goal.returns
returns c = every-admission
