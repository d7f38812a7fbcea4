use Rattle.std.specs.Prelude.{option_copied}
use Rattle.world_lines.proofs.Names.{made_placed}
use Rattle.world_lines.proofs.directory.Directory.made_at.Goals as goal

pub returns : goal.returns
returns c = made_placed c.self.inside.things c.self.inside.users.rows c.self.inside.txs c.self.inside.drawn.rows c.args.self.now c.self.view_is c.args.place (option_copied c.row.result) c.row.ensures
