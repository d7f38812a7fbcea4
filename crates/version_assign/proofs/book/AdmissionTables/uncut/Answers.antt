use Rattle.std.proofs.Common.{◌∙◌}
use Rattle.version_assign.proofs.Entering.{uncut_is}
use Rattle.version_assign.proofs.book.AdmissionTables.uncut.Goals as goal

pub returns : goal.returns
returns c = c.from_vec.ensures ∙ c.list_admitted.ensures ∙ uncut_is c.args.self.now.admitted.entries c.args.self.now.marked
