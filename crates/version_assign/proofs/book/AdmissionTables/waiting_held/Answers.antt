use Rattle.std.proofs.Common.{ap, ◌∙◌}
use Rattle.version_assign.specs.Books.{placed}
use Rattle.version_assign.proofs.Finding.{waits_found}
use Rattle.version_assign.proofs.book.AdmissionTables.waiting_held.Goals as goal

pub returns : goal.returns
returns c =
    c.held_at.ensures
    ∙ ap (λ rows. placed rows c.place_of-place.result) c.as_slice.ensures.value
    ∙ ap (placed c.args.self.now.rows.items) c.place_of-place.ensures
    ∙ waits_found c.args.self.now.rows.items c.args.self.now.known.keys c.args.tx.now c.requires.aligned c.requires.apart
