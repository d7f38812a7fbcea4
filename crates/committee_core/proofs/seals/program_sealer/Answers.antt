use Rattle.committee_core.proofs.Whole.{program_seals}
use Rattle.committee_core.proofs.seals.program_sealer.Goals as goal

pub returns : goal.returns
returns c = program_seals c.new.result.secret c.new.ensures
