use Rattle.headline_law.proofs.TwoMoments.{versions-are-one-chain}
use Rattle.headline_law.proofs.versions.versions_are_one_chain.Goals as goal

pub returns : goal.returns
returns c = versions-are-one-chain
