use Rattle.std.proofs.Common.{◌∙◌}
use Rattle.version_assign.proofs.Finding.{admitted_is}
use Rattle.version_assign.proofs.book.AdmissionTables.is_admitted.Goals as goal

pub returns : goal.returns
returns c = c.contains_key.ensures ∙ admitted_is c.args.self.now.admitted.entries c.args.tx.now
