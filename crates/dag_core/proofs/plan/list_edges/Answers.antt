use Rattle.std.proofs.Common.{sym, refl, subst, take, ◌+◌}
use Rattle.dag_core.specs.Places.{IsFiled}
use Rattle.dag_core.specs.Values.{edge_at}
use Rattle.dag_core.proofs.Listed.{filed_more}
use Rattle.dag_core.proofs.plan.list_edges.Goals as goal

pub loop-place-preserved : goal.loop-place-preserved
loop-place-preserved c =
    let x = edge_at c.args.edges.now c.loop-place.place in
    let inside = c.requires.inside c.loop-place.place c.loop-place-test.true in record {
      into = subst (λ rows. IsFiled (λ edge. edge.to) (take (c.loop-place.place + 1) c.args.edges.now) c.args.tasks rows) (sym (c.in_ok-file.ensures))
          (filed_more (λ edge. edge.to) c.args.edges.now c.args.tasks c.loop-place.into.items c.loop-place.place x record { from = 0; to = 0 } c.loop-place-test.true refl inside.1 c.loop-place.invariant.into);
      out = subst (λ rows. IsFiled (λ edge. edge.from) (take (c.loop-place.place + 1) c.args.edges.now) c.args.tasks rows) (sym (c.in_ok-file-2.ensures))
          (filed_more (λ edge. edge.from) c.args.edges.now c.args.tasks c.loop-place.out.items c.loop-place.place x record { from = 0; to = 0 } c.loop-place-test.true refl inside.0 c.loop-place.invariant.out);
    }
