use Rattle.std.proofs.Common.{◌∙◌}
use Rattle.version_assign.proofs.register.IndexedAdmission.enter.Goals as goal

pub returns-clause-entered : goal.returns-clause-entered
returns-clause-entered c = c.settle_listed.ensures.settled ∙ c.add_row.ensures.settled
