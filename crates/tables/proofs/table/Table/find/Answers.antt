use Rattle.std.proofs.Common.{◌∙◌, ap, sym}
use Rattle.std.specs.Prelude.{slice_get}
use Rattle.tables.specs.Tables.{same_digest}
use Rattle.tables.proofs.Places.{got, missed}
use Rattle.tables.proofs.table.Table.find.Goals as goal

pub returns-in-Some : goal.returns-in-Some
returns-in-Some g c =
    got (λ row. same_digest c.args.key.now (g.T.Keyed.key_of row)) c.args.self.now.rows c.in-Some.place _ (sym c.in-Some.is ∙ c.place_of.ensures)
    (c.row_at.ensures ∙ ap (λ xs. slice_get xs c.in-Some.place) c.rows.ensures)

pub returns-in-None : goal.returns-in-None
returns-in-None g c =
    missed (λ row. same_digest c.args.key.now (g.T.Keyed.key_of row)) c.args.self.now.rows (sym c.in-None.is ∙ c.place_of.ensures)
