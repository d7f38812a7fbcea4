use Rattle.run_law.proofs.Honest.{read-spellable}
use Rattle.run_law.proofs.honesty.read_runs_are_spellable.Goals as goal

pub returns : goal.returns
returns c = read-spellable
