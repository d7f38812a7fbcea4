use Rattle.safety_law.proofs.Prefixes.{one-sequence}
use Rattle.safety_law.proofs.agreement.one_sequence.Goals as goal

pub returns : goal.returns
returns c = one-sequence
