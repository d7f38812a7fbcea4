use Rattle.std.proofs.Common.{◌<◌, ap, sym, subst, ◌∙◌, arith, get_or, refl, ◌++◌, ◌∷◌, []}
use Rattle.dag_core.specs.Places.{times}
use Rattle.dag_core.specs.Plans.{plan_values}
use Rattle.steal_board.specs.Boards.{view}
use Rattle.dag_pool.specs.Crews.{plan_of}
use Rattle.dag_pool.proofs.Tasks.{place_into, took_none, took_more, values_more}
use Rattle.dag_pool.proofs.task.take_inputs.Goals as goal

pub take_input-value-requires-clause-edge : goal.take_input-value-requires-clause-edge
take_input-value-requires-clause-edge g c = (place_into (plan_of c.args.crew.now).edges c.args.task c.edges_into-places.result.now c.loop-place.place-index c.edges_into-places.ensures c.loop-place-test.true).inside

pub take_input-value-requires-clause-claimed : goal.take_input-value-requires-clause-claimed
take_input-value-requires-clause-claimed g c =
    let into = place_into (plan_of c.args.crew.now).edges c.args.task c.edges_into-places.result.now c.loop-place.place-index c.edges_into-places.ensures c.loop-place-test.true in
    subst (λ t. 0 < times t (view c.loop-place.seat).mine) (sym into.is) (subst (λ v. 0 < times c.args.task v.mine) (sym c.loop-place.invariant.took.same) c.requires.claimed)

pub take_input-value-requires-clause-untaken : goal.take_input-value-requires-clause-untaken
take_input-value-requires-clause-untaken g c =
    let place = get_or c.edges_into-places.result.now c.loop-place.place-index 0 in
    let into = place_into (plan_of c.args.crew.now).edges c.args.task c.edges_into-places.result.now c.loop-place.place-index c.edges_into-places.ensures c.loop-place-test.true in
    let counts = c.loop-place.invariant.took.counts place in
    let before = into.before in
    let none = c.requires.untaken place into.inside into.is in
    omega (arith, counts, before, none)

pub loop-place-init : goal.loop-place-init
loop-place-init g c = record { of = c.requires.of; took = took_none _ c.edges_into-places.result.now; inputs = c.in_ok-inputs.ensures.items }

pub loop-place-preserved : goal.loop-place-preserved
loop-place-preserved g c =
    let places = c.edges_into-places.result.now in
    record {
      of = c.take_input-value.ensures.of;
      took = took_more _ _ _ places c.loop-place.place-index _ c.loop-place-test.true refl c.take_input-value.ensures.view c.loop-place.invariant.took;
      inputs = c.in_ok-push.ensures.items ∙ (ap (λ l. l ++ c.take_input-value.result ∷ []) c.loop-place.invariant.inputs
          ∙ sym (values_more (plan_values (plan_of c.args.crew.now)) places c.loop-place.place-index (get_or places c.loop-place.place-index 0) c.take_input-value.result c.loop-place-test.true refl c.take_input-value.ensures.value));
    }
