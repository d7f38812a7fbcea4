use Rattle.std.proofs.Common.{◌∙◌, ap, sym, length}
use Rattle.world_spec.specs.Names.{place_or}
use Rattle.world_lines.proofs.Names.{count_txs, line_found}
use Rattle.world_lines.proofs.directory.Directory.line_of.Goals as goal

pub returns-in-Some : goal.returns-in-Some
returns-in-Some c =
    ap (place_or (length c.args.self.now.txs)) (sym c.in-Some.is ∙ c.place_of.ensures ∙ line_found c.self.inside.things c.self.inside.users.rows c.self.inside.txs c.self.inside.drawn.rows c.args.self.now c.self.view_is c.args.drawn.now.tx)

pub returns-in-None : goal.returns-in-None
returns-in-None c =
    c.len.ensures
    ∙ count_txs c.self.inside.things c.self.inside.users.rows c.self.inside.txs c.self.inside.drawn.rows c.args.self.now c.self.view_is
    ∙ ap (place_or (length c.args.self.now.txs)) (sym c.in-None.is ∙ c.place_of.ensures ∙ line_found c.self.inside.things c.self.inside.users.rows c.self.inside.txs c.self.inside.drawn.rows c.args.self.now c.self.view_is c.args.drawn.now.tx)
