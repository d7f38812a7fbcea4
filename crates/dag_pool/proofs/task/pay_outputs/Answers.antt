use Rattle.std.proofs.Common.{◌≡◌, ◌<◌, sym, subst, refl, ◌∙◌, arith, get_or, Some}
use Rattle.dag_core.specs.Places.{times}
use Rattle.dag_core.specs.Values.{value_of}
use Rattle.dag_core.specs.Plans.{plan_values}
use Rattle.steal_board.specs.Boards.{view}
use Rattle.dag_pool.specs.Crews.{plan_of}
use Rattle.dag_pool.proofs.Tasks.{place_from, paid_more, popped}
use Rattle.dag_pool.proofs.task.pay_outputs.Goals as goal

pub pay_edge-requires-clause-place : goal.pay_edge-requires-clause-place
pay_edge-requires-clause-place g c = (place_from (plan_of c.args.crew.now).edges c.args.task c.edges_from-place-items.result.now c.loop-place.place-index c.edges_from-place-items.ensures c.loop-place-test.true).inside

pub pay_edge-requires-clause-claimed : goal.pay_edge-requires-clause-claimed
pay_edge-requires-clause-claimed g c =
    let from = place_from (plan_of c.args.crew.now).edges c.args.task c.edges_from-place-items.result.now c.loop-place.place-index c.edges_from-place-items.ensures c.loop-place-test.true in
    subst (λ t. 0 < times t (view c.loop-place.post.seat).mine) (sym from.is) (subst (λ v. 0 < times c.args.task v.mine) (sym c.loop-place.invariant.paid.same) c.requires.claimed)

pub pay_edge-requires-clause-unpaid : goal.pay_edge-requires-clause-unpaid
pay_edge-requires-clause-unpaid g c =
    let place = get_or c.edges_from-place-items.result.now c.loop-place.place-index 0 in
    let from = place_from (plan_of c.args.crew.now).edges c.args.task c.edges_from-place-items.result.now c.loop-place.place-index c.edges_from-place-items.ensures c.loop-place-test.true in
    let counts = c.loop-place.invariant.paid.counts place in
    let before = from.before in
    let none = c.requires.unpaid place from.inside from.is in
    omega (arith, counts, before, none)

pub pay_edge-requires-clause-value : goal.pay_edge-requires-clause-value
pay_edge-requires-clause-value g c =
    let next = popped c.loop-place.rest.items c.pop.new.self.items c.args.values c.in-Some.value c.loop-place.place-index c.in-Some.ensures.items c.loop-place.invariant.rest in
    subst (λ l. value_of (plan_values (plan_of c.args.crew.now)) (get_or l c.loop-place.place-index 0) ≡ Some c.in-Some.value) (sym c.edges_from-place-items.ensures) (c.requires.values c.loop-place.place-index c.in-Some.value next.0)

pub loop-place-preserved : goal.loop-place-preserved
loop-place-preserved g c = record {
  of = c.pay_edge.ensures.of;
  paid = paid_more _ _ _ c.edges_from-place-items.result.now c.loop-place.place-index _ c.loop-place-test.true refl c.loop-place.invariant.paid c.pay_edge.ensures.paid;
  outputs = c.pay_edge.ensures.outputs ∙ c.loop-place.invariant.outputs;
  rest = (popped c.loop-place.rest.items c.pop.new.self.items c.args.values c.in-Some.value c.loop-place.place-index c.in-Some.ensures.items c.loop-place.invariant.rest).1;
  owed = λ number o. c.pay_edge.ensures.owed number (c.loop-place.invariant.owed number o);
}
