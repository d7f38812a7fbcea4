-- What the rows of a directory stand for in the definition's `Known`.
use Rattle.std.specs.Prelude.{List, map}
use Rattle.world_spec.specs.Setting.{Thing, User}
use Rattle.world_spec.specs.World.{Made, Drawn}
use Rattle.world_lines.specs.declared.rows.ThingRow.{ThingRow}
use Rattle.world_lines.specs.declared.rows.UserRow.{UserRow}
use Rattle.world_lines.specs.declared.rows.MadeTx.{MadeTx}
use Rattle.world_lines.specs.declared.rows.DrawnRow.{DrawnRow}
use Rattle.world_spec.specs.Known.{Known}

abbrev pub thing_as : ThingRow → Thing
thing_as r = record { name = r.name; id = r.id }

abbrev pub user_as : UserRow → User
user_as r = record { name = r.name; address = r.address }

abbrev pub made_as : MadeTx → Made
made_as r = record { name = r.name; digest = r.digest; signed = r.signed }

abbrev pub drawn_of : DrawnRow → Drawn
drawn_of r = record { id = r.id; tx = r.tx; number = r.number }

abbrev pub known_as : List ThingRow → List UserRow → List MadeTx → List DrawnRow → Known
known_as things users txs drawn = record {
  things = map thing_as things;
  users = map user_as users;
  txs = map made_as txs;
  drawn = map drawn_of drawn;
}
