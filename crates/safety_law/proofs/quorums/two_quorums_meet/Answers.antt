use Rattle.safety_law.proofs.Meeting.{two_meet}
use Rattle.safety_law.proofs.quorums.two_quorums_meet.Goals as goal

pub returns : goal.returns
returns c = two_meet
