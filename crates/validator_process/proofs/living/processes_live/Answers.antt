use Rattle.validator_process.proofs.Lives.{processes-live}
use Rattle.validator_process.proofs.living.processes_live.Goals as goal

pub returns : goal.returns
returns c = processes-live
