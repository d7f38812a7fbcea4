use Rattle.std.proofs.Common.{ap, length}
use Rattle.tables.specs.Tables.{same_digest}
use Rattle.tables.proofs.Places.{digest_one, placed_more}
use Rattle.tables.proofs.table.Table.add.Goals as goal

pub invariant_of-self : goal.invariant_of-self
invariant_of-self g c =
    placed_more same_digest digest_one g.T.Keyed.key_of c.self.inside.list.items c.push.new.self.items c.self.inside.places.entries c.args.row
    c.self.invariant c.add_place.ensures.entries c.key.ensures (ap length c.as_slice.ensures.value) c.in-Ok.ensures.items
