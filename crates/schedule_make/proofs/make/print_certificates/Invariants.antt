use Rattle.std.proofs.Common.{◌≡◌, ◌++◌}
use Rattle.schedule_make.specs.Make.{for_each, certified_text}
use Rattle.schedule_make.proofs.make.print_certificates.Given as goal

abbrev pub invariant-loop-k : goal.invariant-loop-k
invariant-loop-k l = l.out ≡ l.fn.out ++ for_each certified_text l.k
