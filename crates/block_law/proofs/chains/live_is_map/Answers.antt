use Rattle.block_law.proofs.Live.{live-is-map}
use Rattle.block_law.proofs.chains.live_is_map.Goals as goal

pub returns : goal.returns
returns c = live-is-map
