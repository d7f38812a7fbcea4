use Rattle.safety_law.proofs.Turning.{turns-to-fold}
use Rattle.safety_law.proofs.current.turns_to_fold.Goals as goal

pub returns : goal.returns
returns c = λ s events honest distinct m seat at. turns-to-fold s events m seat at honest distinct
