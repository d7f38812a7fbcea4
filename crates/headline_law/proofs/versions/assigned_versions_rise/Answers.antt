use Rattle.headline_law.proofs.Assigning.{assigned-versions-rise}
use Rattle.headline_law.proofs.versions.assigned_versions_rise.Goals as goal

pub returns : goal.returns
returns c = assigned-versions-rise
