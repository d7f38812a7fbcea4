use Rattle.run_law.proofs.SaidWhole.{text_said}
use Rattle.run_law.proofs.reading.what_is_read_can_be_said.Goals as goal

pub returns : goal.returns
returns c = text_said
