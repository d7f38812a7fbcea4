use Rattle.std.proofs.Common.{◌-◌, length}
use Rattle.steal_board.specs.Boards.{view}
use Rattle.dag_pool.specs.Crews.{plan_of, IsReady, KeepsSeat}
use Rattle.dag_pool.proofs.worker.run_turns.Given as goal

abbrev pub invariant-loop : goal.invariant-loop
invariant-loop g l = record {
  ready : IsReady l.crew l.number l.post;
  kept : KeepsSeat l.crew l.fn.post l.post;
}

abbrev pub decreases-loop : goal.decreases-loop
decreases-loop g l = length (plan_of l.crew).jobs - length (view l.post.seat).mine
