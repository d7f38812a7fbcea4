use Rattle.std.proofs.Common.{◌≡◌, length}
use Rattle.steal_board.specs.Boards.{view}
use Rattle.dag_pool.specs.Crews.{IsReady, KeepsSeat}
use Rattle.dag_pool.proofs.worker.from_due.Given as goal

abbrev pub invariant-loop-task : goal.invariant-loop-task
invariant-loop-task g l = record {
  ready : IsReady l.crew l.number l.post;
  kept : KeepsSeat l.crew l.fn.post l.post;
  mine : length (view l.post.seat).mine ≡ length (view l.fn.post.seat).mine;
}

abbrev pub decreases-loop-task : goal.decreases-loop-task
decreases-loop-task g l = length l.post.due.items
