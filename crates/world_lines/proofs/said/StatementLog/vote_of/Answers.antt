use Rattle.std.proofs.Common.{◌∙◌}
use Rattle.world_lines.proofs.Books.{vote_found}
use Rattle.world_lines.proofs.said.StatementLog.vote_of.Goals as goal

pub returns : goal.returns
returns c = c.origins_at.ensures ∙ vote_found c.args.member c.args.epoch c.args.tx.now c.self.inside.rows.items c.self.inside.places c.self.invariant c.self.view_is c.as_slice.ensures.value c.vote-place.ensures
