use Rattle.steal_deck.proofs.Steps.{forks}
use Rattle.steal_deck.proofs.hand.Hand.thief.Goals as goal

pub another-pass-requires : goal.another-pass-requires
another-pass-requires c = forks _ _
