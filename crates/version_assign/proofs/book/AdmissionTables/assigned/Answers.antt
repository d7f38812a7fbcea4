use Rattle.std.proofs.Common.{Some, None, refl}
use Rattle.version_assign.specs.Books.{admission_of}
use Rattle.version_assign.proofs.Finding.{found_assigned}
use Rattle.version_assign.proofs.book.AdmissionTables.assigned.Goals as goal

pub returns-in-Some : goal.returns-in-Some
returns-in-Some c = found_assigned c.args.self.now.admitted.entries (admission_of c.args.self.now) c.args.tx.now (Some c.in-Some.admit.now) refl c.in-Some.ensures.value

pub returns-in-None : goal.returns-in-None
returns-in-None c = found_assigned c.args.self.now.admitted.entries (admission_of c.args.self.now) c.args.tx.now None refl c.in-None.ensures.value
