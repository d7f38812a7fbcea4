use Rattle.std.proofs.Common.{Some, None}
use Rattle.version_assign.proofs.Finding.{found_version}
use Rattle.version_assign.proofs.book.AdmissionTables.version.Goals as goal

pub returns-in-Some : goal.returns-in-Some
returns-in-Some c = found_version c.args.self.now.admitted.entries c.args.tx.now (Some c.in-Some.admit.now) c.in-Some.ensures.value

pub returns-in-None : goal.returns-in-None
returns-in-None c = found_version c.args.self.now.admitted.entries c.args.tx.now None c.in-None.ensures.value
