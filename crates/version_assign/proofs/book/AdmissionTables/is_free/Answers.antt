use Rattle.std.proofs.Common.{ap, ◌∙◌}
use Rattle.protocol_spec.specs.Chain.Words.{first_of}
use Rattle.protocol_spec.specs.Member.Admission.{full_id, missing_origin}
use Rattle.version_assign.specs.Books.{admission_of}
use Rattle.version_assign.proofs.Freeing.{free_both, free_not}
use Rattle.version_assign.proofs.book.AdmissionTables.is_free.Goals as goal

pub returns-then-is_none : goal.returns-then-is_none
returns-then-is_none c =
    free_both c.args.self.now.writers (admission_of c.args.self.now) c.args.held.now c.missing.result c.full.result c.is_none.result c.is_none-then-is_none.result
    (c.missing.ensures ∙ ap (first_of (missing_origin (admission_of c.args.self.now))) c.origins.ensures)
    (c.full.ensures ∙ ap (first_of (full_id c.args.self.now.writers (admission_of c.args.self.now))) c.writes.ensures)
    c.is_none.ensures c.is_none-then-is_none.ensures c.if-is_none.true

pub returns-else-is_none : goal.returns-else-is_none
returns-else-is_none c =
    free_not c.args.self.now.writers (admission_of c.args.self.now) c.args.held.now c.missing.result c.is_none.result
    (c.missing.ensures ∙ ap (first_of (missing_origin (admission_of c.args.self.now))) c.origins.ensures) c.is_none.ensures c.if-is_none.false
