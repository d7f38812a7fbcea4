use Rattle.safety_law.proofs.Journals.{every-record}
use Rattle.safety_law.proofs.votes.every_record_is_due.Goals as goal

pub returns : goal.returns
returns c = every-record
