use Rattle.std.proofs.Common.{◌∙◌}
use Rattle.world_lines.proofs.Books.{end_found}
use Rattle.world_lines.proofs.said.StatementLog.last_end.Goals as goal

pub returns : goal.returns
returns c = c.end_at.ensures ∙ end_found c.args.member c.self.inside.rows.items c.self.inside.places c.self.invariant c.self.view_is c.as_slice.ensures.value c.end-place.ensures
