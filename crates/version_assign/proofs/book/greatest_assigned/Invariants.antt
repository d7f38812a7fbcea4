use Rattle.std.proofs.Common.{◌≡◌, length}
use Rattle.std.specs.Prelude.{fold}
use Rattle.version_assign.specs.Lines.{greater_assigned}
use Rattle.version_assign.proofs.book.greatest_assigned.Given as goal

-- the greatest so far, and those that are left, make up all
abbrev pub invariant-loop-rest : goal.invariant-loop-rest
invariant-loop-rest l = fold greater_assigned l.greatest l.rest ≡ fold greater_assigned l.fn.greatest l.assigned

abbrev pub decreases-loop-rest : goal.decreases-loop-rest
decreases-loop-rest l = length l.rest
