use Rattle.safety_law.proofs.Grown.{statements-grow}
use Rattle.safety_law.proofs.owners.statements_only_grow.Goals as goal

pub returns : goal.returns
returns c = statements-grow
