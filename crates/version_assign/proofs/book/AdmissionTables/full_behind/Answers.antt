use Rattle.std.proofs.Common.{ap, ◌∙◌, is_some}
use Rattle.protocol_spec.specs.Chain.Words.{first_of}
use Rattle.protocol_spec.specs.Member.Admission.{full_id, missing_origin}
use Rattle.version_assign.specs.Books.{admission_of}
use Rattle.version_assign.proofs.Freeing.{held_back, let_on}
use Rattle.version_assign.proofs.book.AdmissionTables.full_behind.Goals as goal

pub returns-in-Some : goal.returns-in-Some
returns-in-Some c =
    held_back c.args.self.now.writers (admission_of c.args.self.now) c.args.held.now c.missing.result
    (c.missing.ensures ∙ ap (first_of (missing_origin (admission_of c.args.self.now))) c.origins.ensures) (ap is_some c.in-Some.is)

pub returns-in-None : goal.returns-in-None
returns-in-None c =
    let_on c.args.self.now.writers (admission_of c.args.self.now) c.args.held.now c.missing.result c.full.result
    (c.missing.ensures ∙ ap (first_of (missing_origin (admission_of c.args.self.now))) c.origins.ensures) (ap is_some c.in-None.is)
    (c.full.ensures ∙ ap (first_of (full_id c.args.self.now.writers (admission_of c.args.self.now))) c.writes.ensures)
