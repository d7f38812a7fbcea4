use Rattle.std.proofs.Common.{◌≡◌, [], length}
use Rattle.validator_core.specs.Steps.{items_after}
use Rattle.validator_core.proofs.runs.collect_items.Given as goal

-- what is left gives what all give
abbrev pub invariant-loop-rest : goal.invariant-loop-rest
invariant-loop-rest l = items_after l.items l.rest ≡ items_after [] l.effects

abbrev pub decreases-loop-rest : goal.decreases-loop-rest
decreases-loop-rest l = length l.rest
