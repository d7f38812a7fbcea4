use Rattle.std.proofs.Common.{◌≡◌}
use Rattle.program_tests.proofs.desks.are_same.Given as goal

-- the member keeps its number
abbrev pub invariant-loop-entry : goal.invariant-loop-entry
invariant-loop-entry l = l.member.member ≡ 0
