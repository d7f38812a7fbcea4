use Rattle.std.proofs.Common.{◌≡◌, length}
use Rattle.steal_board.specs.Boards.{view}
use Rattle.dag_pool.specs.Crews.{IsReady, KeepsSeat}
use Rattle.dag_pool.proofs.worker.from_others.Given as goal

abbrev pub invariant-loop-place : goal.invariant-loop-place
invariant-loop-place g l = record {
  ready : IsReady l.crew l.number l.post;
  kept : KeepsSeat l.crew l.fn.post l.post;
  thieves : length l.kit.thieves.items ≡ length l.fn.kit.thieves.items;
  mine : length (view l.post.seat).mine ≡ length (view l.fn.post.seat).mine;
}
