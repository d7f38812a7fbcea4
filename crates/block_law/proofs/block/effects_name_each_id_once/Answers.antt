use Rattle.block_law.proofs.Effects.{name_once}
use Rattle.block_law.proofs.block.effects_name_each_id_once.Goals as goal

pub returns : goal.returns
returns c = name_once
