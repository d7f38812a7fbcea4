use Rattle.std.proofs.Common.{◌≡◌, ℕ, take}
use Rattle.dag_core.specs.Places.{times}
use Rattle.dag_core.specs.Values.{value_of, values_at}
use Rattle.dag_core.proofs.evaluate.take_inputs.Given as goal

abbrev pub invariant-loop-place : goal.invariant-loop-place
invariant-loop-place g l = record {
  inputs : l.inputs ≡ values_at l.initial.slots (take l.place-index l.places);
  others : (e : ℕ) → times e (take l.place-index l.places) ≡ 0 → value_of l.slots e ≡ value_of l.initial.slots e;
}
