use Rattle.safety_law.proofs.Chains.{versions-are-chains}
use Rattle.safety_law.proofs.epochs.versions_are_chains.Goals as goal

pub returns : goal.returns
returns c = versions-are-chains
