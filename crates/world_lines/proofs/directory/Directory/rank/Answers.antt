use Rattle.std.proofs.Common.{◌∙◌, sym}
use Rattle.world_lines.proofs.Names.{other_rank, thing_rank}
use Rattle.world_lines.proofs.directory.Directory.rank.Goals as goal

pub returns-in-Some : goal.returns-in-Some
returns-in-Some c = thing_rank c.self.inside.things c.self.inside.users.rows c.self.inside.txs c.self.inside.drawn.rows c.args.self.now c.self.view_is c.args.object.now c.in-Some.place (sym c.in-Some.is ∙ c.place_of.ensures)

pub returns-in_ok-drawn-in-None : goal.returns-in_ok-drawn-in-None
returns-in_ok-drawn-in-None c =
    c.drawn_rank.ensures
    ∙ other_rank c.self.inside.things c.self.inside.users.rows c.self.inside.txs c.self.inside.drawn.rows c.args.self.now c.self.view_is c.args.object.now _ (sym c.in-None.is ∙ c.place_of.ensures) c.in_ok-drawn-in-None.ensures
