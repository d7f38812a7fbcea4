use Rattle.run_law.proofs.Whole.{reads_back}
use Rattle.run_law.proofs.reading.canonical_text_reads_back.Goals as goal

pub returns : goal.returns
returns c = reads_back
