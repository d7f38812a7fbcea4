use Rattle.std.proofs.Common.{◌≡◌, length}
use Rattle.quorum_core.specs.Committee.{all_known}
use Rattle.quorum_core.proofs.roll.all_known.Given as goal

abbrev pub invariant-loop-rest : goal.invariant-loop-rest
invariant-loop-rest l = all_known l.committee l.rest ≡ all_known l.committee l.members

abbrev pub decreases-loop-rest : goal.decreases-loop-rest
decreases-loop-rest l = length l.rest
