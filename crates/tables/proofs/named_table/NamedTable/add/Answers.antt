use Rattle.std.proofs.Common.{◌∙◌, ap, length, [], ◌∷◌, ◌++◌}
use Rattle.std.specs.Prelude.{bytes_eq}
use Rattle.tables.proofs.Places.{name_one, placed_more}
use Rattle.tables.proofs.named_table.NamedTable.add.Goals as goal

pub invariant_of-self-2 : goal.invariant_of-self-2
invariant_of-self-2 g c =
    placed_more bytes_eq name_one g.T.Named.name_of c.self.inside.table.rows c.add-2.new.self.rows c.self.inside.names c.args.row
    c.self.invariant c.in_ok-add.ensures.ok c.name.ensures (ap length (c.rows.ensures ∙ c.in_ok-make_room.ensures.rows))
    (c.add-2.ensures.rows ∙ ap (λ xs. xs ++ c.args.row ∷ []) c.in_ok-make_room.ensures.rows)
