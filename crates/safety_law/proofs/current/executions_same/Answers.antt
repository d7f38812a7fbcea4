use Rattle.safety_law.proofs.SameSteps.{executions-same}
use Rattle.safety_law.proofs.current.executions_same.Goals as goal

pub returns : goal.returns
returns c = executions-same
