use Rattle.steal_deck.proofs.Steps.{begins}
use Rattle.steal_deck.proofs.hand.Hand.new.Goals as goal

pub fifo_as-requires : goal.fifo_as-requires
fifo_as-requires c = begins
