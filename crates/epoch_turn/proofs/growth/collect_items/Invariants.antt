use Rattle.std.proofs.Common.{◌≡◌, [], length}
use Rattle.epoch_turn.specs.Kept.{items_after}
use Rattle.epoch_turn.proofs.growth.collect_items.Given as goal

-- those so far, and after them the others, are all
abbrev pub invariant-loop-rest : goal.invariant-loop-rest
invariant-loop-rest l = items_after l.store.executed l.items l.rest ≡ items_after l.store.executed [] l.txs

abbrev pub decreases-loop-rest : goal.decreases-loop-rest
decreases-loop-rest l = length l.rest
