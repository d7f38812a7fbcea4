use Rattle.safety_law.proofs.Executed.{executed-is-step}
use Rattle.safety_law.proofs.current.executed_is_step.Goals as goal

pub returns : goal.returns
returns c = executed-is-step
