use Rattle.safety_law.proofs.AgreedEpochs.{every-checkpoint}
use Rattle.safety_law.proofs.epochs.every_checkpoint.Goals as goal

pub returns : goal.returns
returns c = λ s events honest distinct. every-checkpoint s events honest distinct
