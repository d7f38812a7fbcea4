use Rattle.std.proofs.Common.{◌≡◌, length}
use Rattle.tx_check.specs.Parts.{two_named}
use Rattle.tx_check.proofs.ids.two_named.Given as goal

abbrev pub invariant-loop-rest : goal.invariant-loop-rest
invariant-loop-rest l = two_named l.rest ≡ two_named l.inputs

abbrev pub decreases-loop-rest : goal.decreases-loop-rest
decreases-loop-rest l = length l.rest
