use Rattle.std.proofs.Common.{◌≡◌, length}
use Rattle.exec_plan.specs.Drafts.{all_given}
use Rattle.exec_plan.proofs.drafting.give_all.Given as goal

-- what is left, given to the tasks so far, makes up all
abbrev pub invariant-loop-rest : goal.invariant-loop-rest
invariant-loop-rest l = all_given l.tasks.items l.rest ≡ all_given l.fn.tasks.items l.links

abbrev pub decreases-loop-rest : goal.decreases-loop-rest
decreases-loop-rest l = length l.rest
