use Rattle.std.proofs.Common.{refl}
use Rattle.world_spec.specs.Report.{acks_collected}
use Rattle.world_spec.specs.Step.{votes_collected}
use Rattle.world_spec.specs.World.{seat_honest}
use Rattle.world_lines.proofs.SaidWorlds.{first_from}
use Rattle.world_lines.proofs.said_law.said_in_a_world.Goals as goal

pub returns : goal.returns
unfolding votes_collected acks_collected
returns c = record { first = λ w t. first_from seat_honest w t 0 w.seats; votes = λ _ _ _ _. refl; acks = λ _ _ _ _. refl; named = λ _ _. refl }
