use Rattle.std.proofs.Common.{take}
use Rattle.dag_core.specs.Places.{IsFiled}
use Rattle.dag_core.proofs.plan.list_edges.Given as goal

abbrev pub invariant-loop-place : goal.invariant-loop-place
invariant-loop-place l = record {
  into : IsFiled (λ edge. edge.to) (take l.place l.edges) l.tasks l.into.items;
  out : IsFiled (λ edge. edge.from) (take l.place l.edges) l.tasks l.out.items;
}
