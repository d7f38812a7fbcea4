use Rattle.std.proofs.Common.{◌∙◌, sym}
use Rattle.world_lines.proofs.LastWords.{at_nothing, at_thing}
use Rattle.world_lines.proofs.inputs.thing_at.Goals as goal

pub returns-in-Some : goal.returns-in-Some
returns-in-Some c = at_thing _ c.in-Some.id (sym c.in-Some.is ∙ c.thing_id.ensures)

pub returns-in-None : goal.returns-in-None
returns-in-None c = at_nothing _ (sym c.in-None.is ∙ c.thing_id.ensures)
