use Rattle.std.proofs.Common.{◌∙◌, ap, sym, None}
use Rattle.std.specs.Prelude.{option_copied}
use Rattle.world_lines.proofs.Names.{user_named}
use Rattle.world_lines.proofs.directory.Directory.address_name.Goals as goal

pub returns-in-Some : goal.returns-in-Some
returns-in-Some c =
    c.as_slice.ensures.value
    ∙ user_named c.self.inside.things c.self.inside.users.rows c.self.inside.txs c.self.inside.drawn.rows c.args.self.now c.self.view_is c.args.address.now _ (ap option_copied (sym c.in-Some.is) ∙ c.find.ensures)

pub returns-in-None : goal.returns-in-None
returns-in-None c = c.as_slice-in-None.ensures ∙ user_named c.self.inside.things c.self.inside.users.rows c.self.inside.txs c.self.inside.drawn.rows c.args.self.now c.self.view_is c.args.address.now None (ap option_copied (sym c.in-None.is) ∙ c.find.ensures)
