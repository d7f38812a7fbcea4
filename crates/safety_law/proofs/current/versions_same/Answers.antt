use Rattle.safety_law.proofs.Versions.{versions-same}
use Rattle.safety_law.proofs.current.versions_same.Goals as goal

pub returns : goal.returns
returns c = versions-same
