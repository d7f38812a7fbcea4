use Rattle.std.proofs.Common.{◌≡◌, ◌≤◌}
use Rattle.steal_board.specs.Boards.{view}
use Rattle.dag_pool.specs.Work.{IsOwed, sources_below}
use Rattle.dag_pool.specs.Crews.{plan_of}
use Rattle.dag_pool.proofs.worker.take_dealt.Given as goal

abbrev pub invariant-loop-task : goal.invariant-loop-task
invariant-loop-task g l = record {
  seat : l.post.seat ≡ l.fn.post.seat;
  outputs : l.post.outputs ≡ l.fn.post.outputs;
  sources : l.sources ≡ sources_below (plan_of l.crew).edges l.task;
  few : l.sources ≤ l.task;
  owed : IsOwed (plan_of l.crew).edges l.task l.crew.workers l.number (view l.post.seat) l.post.due.items l.post.starved;
}
