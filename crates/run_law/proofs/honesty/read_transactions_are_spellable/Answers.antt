use Rattle.run_law.proofs.Honest.{read-transactions}
use Rattle.run_law.proofs.honesty.read_transactions_are_spellable.Goals as goal

pub returns : goal.returns
returns c = read-transactions
