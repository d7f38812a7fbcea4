use Rattle.steal_deck.proofs.Steps.{merges, learns}
use Rattle.steal_deck.proofs.hand.Hand.take_back.Goals as goal

pub absorb-requires-clause-rule : goal.absorb-requires-clause-rule
absorb-requires-clause-rule c = merges _ _ _ _

pub len_as-requires : goal.len_as-requires
len_as-requires c = learns _ _
