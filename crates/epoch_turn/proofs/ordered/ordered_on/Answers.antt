use Rattle.epoch_turn.specs.Dues.{is_ordered}
use Rattle.epoch_turn.proofs.Fronts.{front_further}
use Rattle.epoch_turn.proofs.ordered.ordered_on.Goals as goal

pub returns : goal.returns
returns c =
    front_further (is_ordered c.args.admission.now.admission) c.args.ordered c.front_ordered.result c.args.held.now c.held_from.result.now c.requires c.held_from.ensures c.front_ordered.ensures.value
