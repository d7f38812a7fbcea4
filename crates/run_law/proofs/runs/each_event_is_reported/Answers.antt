use Rattle.run_law.proofs.Lines.{all-reported}
use Rattle.run_law.proofs.runs.each_event_is_reported.Goals as goal

pub returns : goal.returns
returns c = all-reported
