use Rattle.std.proofs.Common.{[], ◌∷◌}
use Rattle.steal_deck.proofs.Steps.{pushes}
use Rattle.steal_deck.proofs.hand.Hand.push.Goals as goal

pub push_as-requires-clause-pushes : goal.push_as-requires-clause-pushes
push_as-requires-clause-pushes c = pushes _ _ (c.args.item ∷ []) c.args.self.now.owns
