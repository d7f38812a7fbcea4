use Rattle.block_law.proofs.Effects.{name_touched}
use Rattle.block_law.proofs.block.effects_name_what_is_touched.Goals as goal

pub returns : goal.returns
returns c = name_touched
