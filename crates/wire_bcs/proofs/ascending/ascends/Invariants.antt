use Rattle.std.proofs.Common.{◌≡◌, length}
use Rattle.wire_bcs.specs.Ascending.{ascends}
use Rattle.wire_bcs.proofs.ascending.ascends.Given as goal

abbrev pub invariant-loop-rest : goal.invariant-loop-rest
invariant-loop-rest l = ascends l.rest ≡ ascends l.numbers

abbrev pub decreases-loop-rest : goal.decreases-loop-rest
decreases-loop-rest l = length l.rest
