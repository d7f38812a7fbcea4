use Rattle.std.proofs.Common.{◌≡◌, length}
use Rattle.std.specs.List.{list_all}
use Rattle.exec_plan.specs.Tasks.{is_origin_kept}
use Rattle.exec_plan.proofs.keeping.are_kept.Given as goal

-- all that was passed is made
abbrev pub invariant-loop-rest : goal.invariant-loop-rest
invariant-loop-rest l = list_all (is_origin_kept l.store.executed) l.rest ≡ list_all (is_origin_kept l.store.executed) l.wants

abbrev pub decreases-loop-rest : goal.decreases-loop-rest
decreases-loop-rest l = length l.rest
