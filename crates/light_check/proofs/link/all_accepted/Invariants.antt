use Rattle.std.proofs.Common.{◌≡◌, length}
use Rattle.light_check.specs.Causes.{all_accepted}
use Rattle.light_check.proofs.link.all_accepted.Given as goal

abbrev pub invariant-loop-rest : goal.invariant-loop-rest
invariant-loop-rest g l = all_accepted (g.C.Checker.accepts l.checker) l.bytes l.rest ≡ all_accepted (g.C.Checker.accepts l.checker) l.bytes l.seals

abbrev pub decreases-loop-rest : goal.decreases-loop-rest
decreases-loop-rest g l = length l.rest
