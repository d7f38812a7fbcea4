use Rattle.world_spec.specs.World.{by_records}
use Rattle.world_spec.proofs.MadeWorlds.{line_same, transaction_same}
use Rattle.world_lines.proofs.making_law.made_in_a_world.Goals as goal

pub returns : goal.returns
returns c = record { transaction = λ s w l. transaction_same (by_records s) s w l; made = λ s w l. line_same (by_records s) s w l }
