use Rattle.std.proofs.Common.{◌∙◌, sym}
use Rattle.tables.proofs.Places.{place_put}
use Rattle.tables.proofs.table.add_place.Goals as goal

pub returns-then-not-contains_key-clause-entries : goal.returns-then-not-contains_key-clause-entries
returns-then-not-contains_key-clause-entries c =
    c.insert_in_room.ensures.entries ∙ place_put c.args.places.now.entries c.args.key c.args.place (sym c.if-not-contains_key.true ∙ c.contains_key.ensures)
