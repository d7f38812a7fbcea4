use Rattle.std.proofs.Common.{◌∙◌, ap}
use Rattle.std.specs.Prelude.{position}
use Rattle.tables.specs.Tables.{Rows, same_digest}
use Rattle.tables.proofs.table.Table.place_of.Goals as goal

pub returns : goal.returns
returns g c =
    c.copied.ensures ∙ c.get.ensures.value ∙ c.self.invariant c.args.key.now
    ∙ ap (λ (t : Rows g.row.T.Denot). position (λ row. same_digest c.args.key.now (g.T.Keyed.key_of row)) t.rows) c.self.view_is
