use Rattle.validator_process.proofs.FirstStarts.{made-starts}
use Rattle.validator_process.proofs.living.made_starts.Goals as goal

pub returns : goal.returns
returns c = made-starts
