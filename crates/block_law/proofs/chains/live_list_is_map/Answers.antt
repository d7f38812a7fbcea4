use Rattle.block_law.proofs.LiveMap.{live-list-is-map}
use Rattle.block_law.proofs.chains.live_list_is_map.Goals as goal

pub returns : goal.returns
returns c = live-list-is-map
