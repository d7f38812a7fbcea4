use Rattle.std.proofs.Common.{◌≡◌, ◌++◌, length, map}
use Rattle.exec_plan.specs.Tasks.{carry_of}
use Rattle.exec_plan.proofs.task.carries_of.Given as goal

-- what was passed, and then the rest
abbrev pub invariant-loop-rest : goal.invariant-loop-rest
invariant-loop-rest l = l.carries ++ map (carry_of l.outcome) l.rest ≡ map (carry_of l.outcome) l.keys

abbrev pub decreases-loop-rest : goal.decreases-loop-rest
decreases-loop-rest l = length l.rest
