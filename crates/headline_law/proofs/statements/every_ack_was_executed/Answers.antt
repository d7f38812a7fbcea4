use Rattle.headline_law.proofs.Saying.{every-ack}
use Rattle.headline_law.proofs.statements.every_ack_was_executed.Goals as goal

pub returns : goal.returns
returns c = every-ack
