use Rattle.std.proofs.Common.{arith, []}
use Rattle.steal_deck.proofs.Steps.{takes, finds}
use Rattle.steal_deck.proofs.hand.Hand.pop.Goals as goal

pub pop_as-requires-clause-fifo : goal.pop_as-requires-clause-fifo
pop_as-requires-clause-fifo c = λ _. takes _ _

pub pop_as-requires-clause-empty : goal.pop_as-requires-clause-empty
pop_as-requires-clause-empty c = λ views. finds _ _ [] views (omega arith)
