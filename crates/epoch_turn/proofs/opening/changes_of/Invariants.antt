use Rattle.std.proofs.Common.{◌≡◌, [], length}
use Rattle.epoch_turn.specs.Openings.{changes_after}
use Rattle.epoch_turn.proofs.opening.changes_of.Given as goal

-- what is left gives what all give
abbrev pub invariant-loop-rest : goal.invariant-loop-rest
invariant-loop-rest l = changes_after l.store l.changes l.rest ≡ changes_after l.store [] l.ids

abbrev pub decreases-loop-rest : goal.decreases-loop-rest
decreases-loop-rest l = length l.rest
