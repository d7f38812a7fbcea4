use Rattle.block_law.proofs.Deferring.{none-deferred}
use Rattle.block_law.proofs.admissions.nothing_deferred.Goals as goal

pub returns : goal.returns
returns c = none-deferred
