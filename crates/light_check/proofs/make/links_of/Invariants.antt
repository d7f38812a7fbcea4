use Rattle.std.proofs.Common.{length}
use Rattle.light_check.specs.Making.{AllShort}
use Rattle.light_check.proofs.Sealing.{LinksSoFar}
use Rattle.light_check.proofs.make.links_of.Given as goal

abbrev pub invariant-loop-rest : goal.invariant-loop-rest
invariant-loop-rest g l = record {
  sealed : LinksSoFar (g.S.Checker.accepts l.sealer) l.members l.checkpoints l.rest l.links;
  short : AllShort l.rest;
}

abbrev pub decreases-loop-rest : goal.decreases-loop-rest
decreases-loop-rest g l = length l.rest
