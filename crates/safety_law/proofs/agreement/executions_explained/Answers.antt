use Rattle.safety_law.proofs.Executing.{executions-explained}
use Rattle.safety_law.proofs.agreement.executions_explained.Goals as goal

pub returns : goal.returns
returns c = executions-explained
