use Rattle.safety_law.proofs.Allowed.{no-record-is-bad}
use Rattle.safety_law.proofs.replays.no_record_is_bad.Goals as goal

pub returns : goal.returns
returns c = no-record-is-bad
