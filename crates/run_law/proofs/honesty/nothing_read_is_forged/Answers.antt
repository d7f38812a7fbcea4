use Rattle.run_law.proofs.Honest.{read-unforged}
use Rattle.run_law.proofs.honesty.nothing_read_is_forged.Goals as goal

pub returns : goal.returns
returns c = read-unforged
