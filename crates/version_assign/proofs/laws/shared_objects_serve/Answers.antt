use Rattle.version_assign.proofs.Sharing.{shared_serve}
use Rattle.version_assign.proofs.laws.shared_objects_serve.Goals as goal

pub returns : goal.returns
returns c = shared_serve
