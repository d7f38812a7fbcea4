use Rattle.safety_law.proofs.Checkpointed.{checkpoints-of-fold}
use Rattle.safety_law.proofs.current.checkpoints_of_fold.Goals as goal

pub returns : goal.returns
returns c = λ s events honest distinct m seat at. checkpoints-of-fold s events m seat at honest distinct
