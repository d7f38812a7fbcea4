use Rattle.block_law.proofs.Written.{stay-shared}
use Rattle.block_law.proofs.shared.writes_stay_shared.Goals as goal

pub returns : goal.returns
returns c = stay-shared
