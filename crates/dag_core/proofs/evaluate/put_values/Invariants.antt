use Rattle.std.proofs.Common.{◌≡◌, drop, reverse}
use Rattle.dag_core.specs.Values.{put_at}
use Rattle.dag_core.proofs.evaluate.put_values.Given as goal

abbrev pub invariant-loop-place : goal.invariant-loop-place
invariant-loop-place g l = put_at l.slots (drop l.place-index l.places) (reverse l.rest.items) ≡ put_at l.initial.slots l.places l.fn.values
