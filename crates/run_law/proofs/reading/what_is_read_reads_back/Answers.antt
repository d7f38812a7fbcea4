use Rattle.run_law.proofs.SaidWhole.{text_said}
use Rattle.run_law.proofs.Whole.{reads_back}
use Rattle.run_law.proofs.reading.what_is_read_reads_back.Goals as goal

pub returns : goal.returns
returns c = λ text s h short. reads_back s (text_said text s h) short
