-- The steps of `evaluate_plain`: inputs taken one by one, values put one by one, and what waits between two tasks.
use Rattle.std.proofs.Common.{◌≡◌, ◌≢◌, ℕ, ◌+◌, ◌<◌, ◌≤◌, List, [], ◌∷◌, ◌++◌, length, get_or, set, take, drop, Option, Some, None, sym, refl, ap, ◌∙◌, subst, append_assoc, get_or-set_other, arith}
use mathlib.Core.Logic.{dite}
use native.Mathlib.Decide.{ℕ_discrete}
use Rattle.std.specs.Prelude.{slice_get}
use Rattle.std.specs.Option.{option_to_list}
use Rattle.std.proofs.lemmas.List.{append-nil, take_more}
use Rattle.std.proofs.lemmas.Option.{get_or_from_slice_get}
use Rattle.dag_core.specs.declared.plan.Edge.{Edge}
use Rattle.dag_core.specs.Places.{times}
use Rattle.dag_core.specs.Values.{source, target, places_to, places_from, value_of, values_at, put_at, edge_values, outputs, Waits}
use Rattle.dag_core.proofs.Places.{times_at, times_in, times-append, times_here}
use Rattle.dag_core.proofs.Fixed.{IsPlan, to_target, source_from, from_source, from_once, not_from, not_to, length-put_at, put_else, put_here, values_same, item_at, task_output, task_value, values_fit}

module _ {V : Type 0} where
  values_at-push : (a : List (Option V)) (ps : List ℕ) (p : ℕ) → values_at a (ps ++ p ∷ []) ≡ values_at a ps ++ option_to_list (value_of a p)
  values_at-push a [] p = append-nil (option_to_list (value_of a p))
  values_at-push a (q ∷ ps) p = ap (λ l. option_to_list (value_of a q) ++ l) (values_at-push a ps p) ∙ sym (append_assoc (option_to_list (value_of a q)) (values_at a ps) (option_to_list (value_of a p)))

  -- one more input is taken: the edge at the k-th place was not among those before
  pub taken_more : (start slots : List (Option V)) (ps : List ℕ) (k p : ℕ) (xs ys : List V) → k < length ps → get_or ps k 0 ≡ p → ((e : ℕ) → times e ps ≤ 1)
      → xs ≡ values_at start (take k ps) → ((e : ℕ) → times e (take k ps) ≡ 0 → value_of slots e ≡ value_of start e) → ys ≡ xs ++ option_to_list (value_of slots p)
      → ys ≡ values_at start (take (k + 1) ps)
  taken_more start slots ps k p xs ys lt is once had others got =
      let t = times_at ps k lt in
      let o = once (get_or ps k 0) in
      let fresh : times p (take k ps) ≡ 0 = subst (λ x. times x (take k ps) ≡ 0) is (omega (arith, t, o)) in
      let more : take (k + 1) ps ≡ take k ps ++ p ∷ [] = take_more ps k 0 lt ∙ ap (λ x. take k ps ++ x ∷ []) is in
      got ∙ (ap (λ l. l ++ option_to_list (value_of slots p)) had ∙ (ap (λ o. values_at start (take k ps) ++ option_to_list o) (others p fresh) ∙ (sym (values_at-push start (take k ps) p) ∙ ap (values_at start) (sym more))))

  -- edges that are not among the places taken so far keep their values
  pub others_more : (start slots : List (Option V)) (ps : List ℕ) (k p : ℕ) → k < length ps → get_or ps k 0 ≡ p
      → ((e : ℕ) → times e (take k ps) ≡ 0 → value_of slots e ≡ value_of start e) → (e : ℕ) → times e (take (k + 1) ps) ≡ 0 → value_of (set slots p None) e ≡ value_of start e
  others_more start slots ps k p lt is others e none =
      let more : take (k + 1) ps ≡ take k ps ++ p ∷ [] = take_more ps k 0 lt ∙ ap (λ x. take k ps ++ x ∷ []) is in
      let both : times e (take k ps) + times e (p ∷ []) ≡ 0 = sym (times-append e (take k ps) (p ∷ [])) ∙ (ap (times e) (sym more) ∙ none) in
      dite (ℕ_discrete p e)
      (λ q. absurd (let h = times_here e p [] q in omega (arith, h, both)))
      (λ ne. get_or-set_other slots p e None None (λ q. ne (sym q)) ∙ others e (omega (arith, both)))

  put_none : (known : List (Option V)) (ps : List ℕ) → put_at known ps [] ≡ known
  put_none known [] = refl
  put_none known (p ∷ ps) = refl

  -- one more value is put
  pub put_step : (known : List (Option V)) (p : ℕ) (ps : List ℕ) (vs : List V) → put_at (put_at known (p ∷ []) vs) ps (drop 1 vs) ≡ put_at known (p ∷ ps) vs
  put_step known p ps [] = put_none known ps
  put_step known p ps (v ∷ vs) = refl

module _ {J V O : Type 0} (output : J → List V → O) (values : J → List V → List V) (takes gives : J → ℕ) (es : List Edge) (js : List J) (plan : IsPlan takes gives values es js) where
  -- the inputs that wait for a task are the plan's
  pub waiting_inputs : (slots : List (Option V)) (t : ℕ) → Waits es (edge_values output values es js) slots t → values_at slots (places_to es t) ≡ values_at (edge_values output values es js) (places_to es t)
  waiting_inputs slots t waits = values_same slots (edge_values output values es js) (places_to es t)
      (λ e h. let r = to_target es t e h in let f = plan.forward e r.0 in let q = r.1 in waits.here e r.0 (omega (arith, f, q)) (omega (arith, q)))

  -- what is taken from the slots of a task's incoming edges
  pub taken_inputs : (slots : List (Option V)) (t : ℕ) (ps : List ℕ) (inputs : List V) → Waits es (edge_values output values es js) slots t → ps ≡ places_to es t → inputs ≡ values_at slots ps
      → inputs ≡ values_at (edge_values output values es js) (places_to es t)
  taken_inputs slots t ps inputs waits is got = got ∙ (ap (values_at slots) is ∙ waiting_inputs slots t waits)

  -- what waits for the next task, once a task has taken its inputs and put its values
  pub waits_more : (slots taken : List (Option V)) (t : ℕ) (j : J) → slice_get js t ≡ Some j → Waits es (edge_values output values es js) slots t
      → length taken ≡ length slots → ((e : ℕ) → times e (places_to es t) ≡ 0 → value_of taken e ≡ value_of slots e)
      → Waits es (edge_values output values es js) (put_at taken (places_from es t) (values j (values_at (edge_values output values es js) (places_to es t)))) (t + 1)
  waits_more slots taken t j at waits len others = record {
    counted = length-put_at taken (places_from es t) _ ∙ (len ∙ waits.counted);
    here = λ e lt s u. dite (ℕ_discrete (source es e) t) (λ q. mine e lt q) (λ ne. old e lt s u ne);
  }
    where
      mine : (e : ℕ) → e < length es → source es e ≡ t → value_of (put_at taken (places_from es t) (values j (values_at (edge_values output values es js) (places_to es t)))) e ≡ value_of (edge_values output values es js) e
      mine e lt q =
          let one : times e (places_from es t) ≡ 1 = subst (λ n. times e (places_from es n) ≡ 1) q (source_from es e lt) in
          let place = times_in e (places_from es t) (omega (arith, one)) in
          let fit = values_fit output values takes gives es js plan t j at in
          let given = item_at (values j (values_at (edge_values output values es js) (places_to es t))) place.0 (let b = place.1 in omega (arith, fit, b)) in
          let counted = waits.counted in
          let put = put_here taken (places_from es t) (values j (values_at (edge_values output values es js) (places_to es t))) place.0 given.0 (from_once es t) (λ x h. let r = (from_source es t x h).0 in omega (arith, r, len, counted)) place.1 given.1 in
          let want = task_value output values takes gives es js plan t j at place.0 given.0 place.1 given.1 in
          subst (λ x. value_of (put_at taken (places_from es t) (values j (values_at (edge_values output values es js) (places_to es t)))) x ≡ value_of (edge_values output values es js) x) place.2 (put ∙ sym want)

      old : (e : ℕ) → e < length es → source es e < t + 1 → t + 1 ≤ target es e → source es e ≢ t
          → value_of (put_at taken (places_from es t) (values j (values_at (edge_values output values es js) (places_to es t)))) e ≡ value_of (edge_values output values es js) e
      old e lt s u ne =
          put_else taken (places_from es t) (values j (values_at (edge_values output values es js) (places_to es t))) e (not_from es t e ne)
          ∙ (others e (not_to es t e (λ q. omega arith)) ∙ waits.here e lt (omega arith) (omega arith))

  -- `Waits` after one more task, in terms of what the source's calls give
  pub waits_next : (slots taken next : List (Option V)) (t : ℕ) (j : J) (into out : List ℕ) (inputs given : List V) → slice_get js t ≡ Some j → Waits es (edge_values output values es js) slots t
      → into ≡ places_to es t → out ≡ places_from es t → inputs ≡ values_at slots into → given ≡ values j inputs → length taken ≡ length slots
      → ((e : ℕ) → times e into ≡ 0 → value_of taken e ≡ value_of slots e) → next ≡ put_at taken out given → Waits es (edge_values output values es js) next (t + 1)
  waits_next slots taken next t j into out inputs given at waits into_is out_is got gave len others put =
      let given_is : given ≡ values j (values_at (edge_values output values es js) (places_to es t)) = gave ∙ ap (values j) (taken_inputs slots t into inputs waits into_is got) in
      let put_is : put_at taken (places_from es t) (values j (values_at (edge_values output values es js) (places_to es t))) ≡ next = sym (put ∙ (ap (λ ps. put_at taken ps given) out_is ∙ ap (put_at taken (places_from es t)) given_is)) in
      subst (λ l. Waits es (edge_values output values es js) l (t + 1)) put_is
      (waits_more slots taken t j at waits len (λ e none. others e (ap (times e) into_is ∙ none)))

  -- a task's output, of the inputs that were taken
  pub output_taken : (t : ℕ) (j : J) (inputs : List V) (o : O) → slice_get js t ≡ Some j → inputs ≡ values_at (edge_values output values es js) (places_to es t) → o ≡ output j inputs
      → slice_get (outputs output values es js) t ≡ Some o
  output_taken t j inputs o at is out = task_output output values takes gives es js plan t j at ∙ ap Some (sym (out ∙ ap (output j) is))

-- one more output
pub outputs_more : {O : Type 0} (all done : List O) (t : ℕ) (o : O) → t < length all → slice_get all t ≡ Some o → done ≡ take t all → done ++ o ∷ [] ≡ take (t + 1) all
outputs_more all done t o lt at is = ap (λ l. l ++ o ∷ []) is ∙ (ap (λ x. take t all ++ x ∷ []) (sym (get_or_from_slice_get all t o o at)) ∙ sym (take_more all t o lt))
