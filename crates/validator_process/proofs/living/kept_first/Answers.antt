use Rattle.validator_process.proofs.Handed.{kept-first}
use Rattle.validator_process.proofs.living.kept_first.Goals as goal

pub returns : goal.returns
returns c = kept-first
