use Rattle.std.proofs.Common.{◌≡◌, take}
use Rattle.dag_core.specs.Values.{values_at}
use Rattle.dag_core.specs.Plans.{plan_values}
use Rattle.steal_board.specs.Boards.{view, IsOf}
use Rattle.dag_pool.specs.Work.{Took}
use Rattle.dag_pool.specs.Crews.{plan_of}
use Rattle.dag_pool.proofs.task.take_inputs.Given as goal

abbrev pub invariant-loop-place : goal.invariant-loop-place
invariant-loop-place g l = record {
  of : IsOf l.crew.board.now l.seat;
  took : Took (view l.fn.seat) (take l.place-index l.places) (view l.seat);
  inputs : l.inputs.items ≡ values_at (plan_values (plan_of l.crew)) (take l.place-index l.places);
}
