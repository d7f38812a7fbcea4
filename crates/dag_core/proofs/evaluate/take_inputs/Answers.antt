use Rattle.std.proofs.Common.{ap, refl, ◌∙◌, get_or, arith}
use Rattle.dag_core.specs.Values.{value_of}
use Rattle.dag_core.proofs.Places.{times_at}
use Rattle.dag_core.proofs.Plain.{taken_more, others_more}
use Rattle.dag_core.proofs.evaluate.take_inputs.Goals as goal

pub take_input-requires : goal.take_input-requires
take_input-requires g c =
    let t = times_at c.args.places.now c.loop-place.place-index c.loop-place-test.true in
    let inside = c.requires.inside (get_or c.args.places.now c.loop-place.place-index 0) (omega (arith, t)) in omega (arith, inside)

pub loop-place-preserved : goal.loop-place-preserved
loop-place-preserved g c =
    let p = get_or c.args.places.now c.loop-place.place-index 0 in record {
      inputs = taken_more c.args.slots.now c.loop-place.slots c.args.places.now c.loop-place.place-index p c.loop-place.inputs c.take_input.new.inputs c.loop-place-test.true refl c.requires.once c.loop-place.invariant.inputs
          c.loop-place.invariant.others c.in_ok-take_input.ensures.inputs;
      others = λ e none. ap (λ slots. value_of slots e) c.take_input.ensures.slots ∙ others_more c.args.slots.now c.loop-place.slots c.args.places.now c.loop-place.place-index p c.loop-place-test.true refl c.loop-place.invariant.others e none;
    }
