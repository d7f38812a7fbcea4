use Rattle.std.proofs.Common.{◌≡◌, length}
use Rattle.std.specs.Prelude.{fold}
use Rattle.version_assign.specs.Lines.{greater_named}
use Rattle.version_assign.proofs.excerpt.greatest_named.Given as goal

-- the greatest so far, and those that are left, make up all
abbrev pub invariant-loop-rest : goal.invariant-loop-rest
invariant-loop-rest l = fold greater_named l.greatest l.rest ≡ fold greater_named l.fn.greatest l.inputs

abbrev pub decreases-loop-rest : goal.decreases-loop-rest
decreases-loop-rest l = length l.rest
