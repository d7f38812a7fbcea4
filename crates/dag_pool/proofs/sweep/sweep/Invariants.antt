use Rattle.std.proofs.Common.{◌≡◌, ◌+◌, ◌≤◌, length}
use Rattle.steal_board.specs.Boards.{view}
use Rattle.dag_pool.specs.Work.{NoneLeft}
use Rattle.dag_pool.specs.Crews.{plan_of, IsSwept}
use Rattle.dag_pool.proofs.sweep.sweep.Given as goal

abbrev pub invariant-loop-task : goal.invariant-loop-task
invariant-loop-task g l = record {
  done : IsSwept l.crew l.task l.post;
  none : NoneLeft (plan_of l.crew).edges (length (plan_of l.crew).jobs) (view l.fn.post.seat) → (l.swept ≡ 0) × NoneLeft (plan_of l.crew).edges (length (plan_of l.crew).jobs) (view l.post.seat);
  few : l.swept ≤ l.task;
  gained : length (view l.post.seat).mine ≡ length (view l.fn.post.seat).mine + l.swept;
}
