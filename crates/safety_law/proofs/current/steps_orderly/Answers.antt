use Rattle.safety_law.proofs.Ordered.{steps-orderly}
use Rattle.safety_law.proofs.Known.{opens-apart}
use Rattle.safety_law.proofs.current.steps_orderly.Goals as goal

pub returns : goal.returns
returns c = λ s events honest distinct m seat at. steps-orderly s events honest m seat at (opens-apart s events honest distinct m seat at)
