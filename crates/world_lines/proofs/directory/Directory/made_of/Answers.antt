use Rattle.std.specs.Prelude.{option_copied}
use Rattle.world_lines.proofs.Names.{made_with}
use Rattle.world_lines.proofs.directory.Directory.made_of.Goals as goal

pub returns : goal.returns
returns c = made_with c.self.inside.things c.self.inside.users.rows c.self.inside.txs c.self.inside.drawn.rows c.args.self.now c.self.view_is c.args.tx.now (option_copied c.find.result) c.find.ensures
