use Rattle.headline_law.proofs.Admitting.{executed-admitted}
use Rattle.headline_law.proofs.statements.executed_is_admitted.Goals as goal

pub returns : goal.returns
returns c = executed-admitted
