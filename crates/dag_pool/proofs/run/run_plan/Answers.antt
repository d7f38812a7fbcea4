use Rattle.std.proofs.Common.{◌≡◌, ◌<◌, ℕ, subst, length, IfOk}
use Rattle.dag_core.specs.Places.{times}
use Rattle.steal_board.specs.Boards.{view}
use Rattle.dag_pool.specs.Work.{HasAll}
use Rattle.dag_pool.proofs.run.run_plan.Goals as goal

pub returns-clause-tasks : goal.returns-clause-tasks
returns-clause-tasks g c = subst (λ plan. IfOk c.finish.result (λ run. HasAll (length plan.jobs) (view run.seat))) c.requires.over c.finish.ensures.tasks

pub returns-clause-edges : goal.returns-clause-edges
returns-clause-edges g c = subst (λ plan. IfOk c.finish.result (λ run. (edge : ℕ) → edge < length plan.edges → (times edge (view run.seat).paid ≡ 1) × (times edge (view run.seat).taken ≡ 1))) c.requires.over c.finish.ensures.edges
