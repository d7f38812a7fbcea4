use Rattle.safety_law.proofs.Prefixes.{follows}
use Rattle.safety_law.proofs.agreement.members_follow_the_sequence.Goals as goal

pub returns : goal.returns
returns c = follows
