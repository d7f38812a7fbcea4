use Rattle.std.proofs.Common.{◌∙◌, ap, sym}
use Rattle.std.specs.Prelude.{slice_get, bytes_eq}
use Rattle.tables.proofs.Places.{got, missed}
use Rattle.tables.proofs.named_table.NamedTable.named.Goals as goal

pub returns-in-Some : goal.returns-in-Some
returns-in-Some g c =
    got (λ row. bytes_eq c.args.name.now (g.T.Named.name_of row)) c.args.self.now c.in-Some.place _ (sym c.in-Some.is ∙ c.place_named.ensures)
    (c.row_at.ensures ∙ ap (λ xs. slice_get xs c.in-Some.place) (c.rows.ensures ∙ c.self.view_is))

pub returns-in-None : goal.returns-in-None
returns-in-None g c =
    missed (λ row. bytes_eq c.args.name.now (g.T.Named.name_of row)) c.args.self.now (sym c.in-None.is ∙ c.place_named.ensures)
