use Rattle.std.proofs.Common.{◌≡◌, ℕ, ◌+◌, ◌<◌, ◌≤◌, sym, ap, ◌∙◌, List, ◌∷◌, [], length, drop, get_or, reverse, Option, arith}
use Rattle.std.proofs.lemmas.List.{drop_more, drop_all}
use Rattle.dag_core.specs.Values.{put_at}
use Rattle.dag_core.proofs.Places.{times_at}
use Rattle.dag_core.proofs.Plain.{put_step}
use Rattle.dag_core.proofs.evaluate.put_values.Goals as goal

pub put_value-requires : goal.put_value-requires
put_value-requires g c =
    let t = times_at c.args.places.now c.loop-place.place-index c.loop-place-test.true in
    let inside = c.requires (get_or c.args.places.now c.loop-place.place-index 0) (omega (arith, t)) in omega (arith, inside)

-- the values that are left go to the places that are left
left_more : {V : Type 0} (start slots next : List (Option V)) (ps : List ℕ) (k : ℕ) (values rest left : List V) → k < length ps → put_at slots (drop k ps) rest ≡ put_at start ps values
    → next ≡ put_at slots (get_or ps k 0 ∷ []) rest → left ≡ drop 1 rest → put_at next (drop (k + 1) ps) left ≡ put_at start ps values
left_more start slots next ps k values rest left lt so_far put popped =
    ap (λ n. put_at n (drop (k + 1) ps) left) put
    ∙ (ap (put_at (put_at slots (get_or ps k 0 ∷ []) rest) (drop (k + 1) ps)) popped
    ∙ (put_step slots (get_or ps k 0) (drop (k + 1) ps) rest ∙ (ap (λ qs. put_at slots qs rest) (sym (drop_more ps k 0 lt)) ∙ so_far)))

left_none : {V : Type 0} (start slots : List (Option V)) (ps : List ℕ) (k : ℕ) (values rest : List V) → length ps ≤ k → put_at slots (drop k ps) rest ≡ put_at start ps values → slots ≡ put_at start ps values
left_none start slots ps k values rest le so_far = ap (λ qs. put_at slots qs rest) (sym (drop_all k ps le)) ∙ so_far

pub loop-place-preserved : goal.loop-place-preserved
loop-place-preserved g c =
    left_more c.args.slots.now c.loop-place.slots c.put_value.new.slots c.args.places.now c.loop-place.place-index c.args.values (reverse c.loop-place.rest.items) (reverse c.put_value.new.rest.items) c.loop-place-test.true c.loop-place.invariant
    c.put_value.ensures.slots c.put_value.ensures.rest

pub returns : goal.returns
returns g c = left_none c.args.slots.now c.loop-place.slots c.args.places.now c.loop-place.place-index c.args.values (reverse c.loop-place.rest.items) c.loop-place-test.false c.loop-place.invariant
