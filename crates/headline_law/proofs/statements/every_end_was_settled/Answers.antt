use Rattle.headline_law.proofs.Saying.{every-end}
use Rattle.headline_law.proofs.statements.every_end_was_settled.Goals as goal

pub returns : goal.returns
returns c = every-end
