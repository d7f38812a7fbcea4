use Rattle.std.proofs.Common.{◌≡◌, length}
use Rattle.indexmap.specs.IndexSet.{insert_all}
use Rattle.chain_types.specs.Equal.{digest_eq}
use Rattle.exec_plan.proofs.planner.add_all_planned.Given as goal

-- what is left, added to those so far, makes up all
abbrev pub invariant-loop-rest : goal.invariant-loop-rest
invariant-loop-rest l = insert_all digest_eq l.planned.keys l.rest ≡ insert_all digest_eq l.fn.planned.keys l.txs

abbrev pub decreases-loop-rest : goal.decreases-loop-rest
decreases-loop-rest l = length l.rest
