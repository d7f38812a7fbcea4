use Rattle.safety_law.proofs.Opened.{every-opening}
use Rattle.safety_law.proofs.epochs.every_opening.Goals as goal

pub returns : goal.returns
returns c = every-opening
