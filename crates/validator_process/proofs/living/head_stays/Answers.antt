use Rattle.validator_process.proofs.Staying.{head-stays, made-leaves}
use Rattle.validator_process.proofs.living.head_stays.Goals as goal

pub returns-clause-made : goal.returns-clause-made
returns-clause-made c = made-leaves

pub returns-clause-stays : goal.returns-clause-stays
returns-clause-stays c = head-stays
