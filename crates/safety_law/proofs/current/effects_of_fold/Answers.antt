use Rattle.safety_law.proofs.Thread.{effects-of-fold}
use Rattle.safety_law.proofs.Known.{opens-apart}
use Rattle.safety_law.proofs.current.effects_of_fold.Goals as goal

pub returns : goal.returns
returns c = λ s events honest distinct m seat at. effects-of-fold s events honest m seat at (opens-apart s events honest distinct m seat at)
