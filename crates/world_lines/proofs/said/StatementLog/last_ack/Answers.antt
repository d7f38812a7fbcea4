use Rattle.std.proofs.Common.{◌∙◌}
use Rattle.world_lines.proofs.Books.{ack_found}
use Rattle.world_lines.proofs.said.StatementLog.last_ack.Goals as goal

pub returns : goal.returns
returns c = c.effects_at.ensures ∙ ack_found c.args.member c.args.epoch c.args.tx.now c.self.inside.rows.items c.self.inside.places c.self.invariant c.self.view_is c.as_slice.ensures.value c.ack-place.ensures
