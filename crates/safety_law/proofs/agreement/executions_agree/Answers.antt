use Rattle.safety_law.proofs.Agreeing.{executions-agree}
use Rattle.safety_law.proofs.agreement.executions_agree.Goals as goal

pub returns : goal.returns
returns c = executions-agree
