use Rattle.safety_law.proofs.AgreedEpochs.{members-agree}
use Rattle.safety_law.proofs.epochs.members_agree.Goals as goal

pub returns : goal.returns
returns c = λ s front back honest distinct. members-agree s front back honest distinct
