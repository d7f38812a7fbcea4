use Rattle.std.proofs.Common.{◌≡◌, ℕ, take, drop}
use Rattle.std.specs.Prelude.{reverse}
use Rattle.steal_board.specs.Boards.{view, IsOf}
use Rattle.dag_pool.specs.Work.{Paid}
use Rattle.dag_pool.specs.Crews.{Owes}
use Rattle.dag_pool.proofs.task.pay_outputs.Given as goal

abbrev pub invariant-loop-place : goal.invariant-loop-place
invariant-loop-place g l = record {
  of : IsOf l.crew.board.now l.post.seat;
  paid : Paid (view l.fn.post.seat) (take l.place-index l.place-items) (view l.post.seat);
  outputs : l.post.outputs ≡ l.fn.post.outputs;
  rest : reverse l.rest.items ≡ drop l.place-index l.fn.values;
  owed : (number : ℕ) → Owes l.crew number l.fn.post.due.items l.fn.post → Owes l.crew number l.post.due.items l.post;
}
