use Rattle.std.proofs.Common.{length}
use Rattle.light_check.proofs.Sealing.{SealsSoFar}
use Rattle.light_check.proofs.make.seals_over.Given as goal

abbrev pub invariant-loop-rest : goal.invariant-loop-rest
invariant-loop-rest g l = SealsSoFar (g.S.Checker.accepts l.sealer) l.bytes l.members l.rest l.seals

abbrev pub decreases-loop-rest : goal.decreases-loop-rest
decreases-loop-rest g l = length l.rest
