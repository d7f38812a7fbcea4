use Rattle.std.proofs.Common.{length}
use Rattle.light_check.proofs.Walking.{Walks}
use Rattle.light_check.proofs.check.check_links.Given as goal

-- the links that are left give what all give
abbrev pub invariant-loop-rest : goal.invariant-loop-rest
invariant-loop-rest g l = Walks l.committee (g.C.Checker.accepts l.checker) l.links l.place l.before l.rest

abbrev pub decreases-loop-rest : goal.decreases-loop-rest
decreases-loop-rest g l = length l.rest
