use Rattle.std.proofs.Common.{arith}
use Rattle.steal_deck.proofs.Steps.{takes, finds}
use Rattle.steal_deck.proofs.thief.Thief.steal.Goals as goal

pub steal_as-requires-clause-takes : goal.steal_as-requires-clause-takes
steal_as-requires-clause-takes c = takes _ _

pub steal_as-requires-clause-empty : goal.steal_as-requires-clause-empty
steal_as-requires-clause-empty c = λ items views few. let first = c.args.self.now.first in finds _ _ items views (omega arith)
