use Rattle.std.proofs.Common.{◌∙◌, ap, sym}
use Rattle.std.specs.Prelude.{bytes_eq, find}
use Rattle.world_spec.specs.Setting.{Thing}
use Rattle.world_spec.specs.Making.{thing_at}
use Rattle.world_spec.specs.MadeLines.{word_id}
use Rattle.world_lines.proofs.inputs.id_of.Goals as goal

pub returns-in-Setup : goal.returns-in-Setup
returns-in-Setup c = c.thing_at.ensures ∙ ap (λ n. thing_at (find (λ (t : Thing). bytes_eq t.name n) c.args.directory.now.things)) c.as_slice.ensures.value ∙ ap (word_id c.args.directory.now) (sym c.in-Setup.is)
