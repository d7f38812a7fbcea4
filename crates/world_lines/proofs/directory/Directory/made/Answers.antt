use Rattle.std.specs.Prelude.{option_copied}
use Rattle.world_lines.proofs.Names.{made_found}
use Rattle.world_lines.proofs.directory.Directory.made.Goals as goal

pub returns : goal.returns
returns c = made_found c.self.inside.things c.self.inside.users.rows c.self.inside.txs c.self.inside.drawn.rows c.args.self.now c.self.view_is c.args.name.now (option_copied c.named.result) c.named.ensures
