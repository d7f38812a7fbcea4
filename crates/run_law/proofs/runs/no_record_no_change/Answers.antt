use Rattle.run_law.proofs.Seats.{no-record}
use Rattle.run_law.proofs.runs.no_record_no_change.Goals as goal

pub returns : goal.returns
returns c = no-record
