use Rattle.safety_law.proofs.Same.{one-transaction}
use Rattle.safety_law.proofs.agreement.one_transaction.Goals as goal

pub returns : goal.returns
returns c = one-transaction
