-- The values of a plan as a fixed point: whatever task is run when its inputs are there, with the plan's values as inputs it gives
-- the plan's output, and the plan's values to its outgoing edges.
use Rattle.std.proofs.Common.{◌≡◌, ◌≢◌, ℕ, zero, suc, ◌+◌, ◌<◌, ◌≤◌, eqb, List, [], ◌∷◌, ◌++◌, length, get_or, set, replicate, Option, Some, None, sym, refl, ap, ◌∙◌, subst, eq-eqb, eqb→eq, length-set, get_or-set_same, get_or-set_other, arith}
use mathlib.Core.Logic.{dite}
use native.Mathlib.Decide.{ℕ_discrete}
use Rattle.std.specs.Prelude.{slice_get}
use Rattle.std.specs.Bool.{passes}
use Rattle.std.specs.Option.{option_to_list}
use Rattle.std.proofs.lemmas.Option.{same_Some}
use Rattle.std.proofs.lemmas.List.{length-replicate}
use Rattle.dag_core.specs.declared.plan.Edge.{Edge}
use Rattle.dag_core.specs.Places.{times}
use Rattle.dag_core.specs.Values.{source, target, places_to, places_from, count_in, count_out, value_of, values_at, put_at, known_next, known_after, outputs_after, edge_values, outputs}
use Rattle.dag_core.proofs.Places.{times_here, times_else, times_in, places_once, places_found, places_inside}

abbrev no_edge : Edge
no_edge = record { from = 0; to = 0 }

-- an edge comes from the tasks whose outgoing places have it
pub from_source : (es : List Edge) (t e : ℕ) → 0 < times e (places_from es t) → (e < length es) × (source es e ≡ t)
from_source es t e h = let r = places_inside (λ edge. eqb edge.from t) e es no_edge h in (r.0, eqb→eq _ _ (passes _ r.1))

pub source_from : (es : List Edge) (e : ℕ) → e < length es → times e (places_from es (source es e)) ≡ 1
source_from es e h = places_found (λ edge. eqb edge.from (source es e)) e es no_edge h (eq-eqb _ _ refl)

pub to_target : (es : List Edge) (t e : ℕ) → 0 < times e (places_to es t) → (e < length es) × (target es e ≡ t)
to_target es t e h = let r = places_inside (λ edge. eqb edge.to t) e es no_edge h in (r.0, eqb→eq _ _ (passes _ r.1))

pub target_to : (es : List Edge) (e : ℕ) → e < length es → times e (places_to es (target es e)) ≡ 1
target_to es e h = places_found (λ edge. eqb edge.to (target es e)) e es no_edge h (eq-eqb _ _ refl)

pub to_once : (es : List Edge) (t e : ℕ) → times e (places_to es t) ≤ 1
to_once es t e = places_once (λ edge. eqb edge.to t) 0 e es

pub from_once : (es : List Edge) (t e : ℕ) → times e (places_from es t) ≤ 1
from_once es t e = places_once (λ edge. eqb edge.from t) 0 e es

-- none of the incoming places of another task
pub not_to : (es : List Edge) (t e : ℕ) → target es e ≢ t → times e (places_to es t) ≡ 0
not_to es t e ne = dite (ℕ_discrete (times e (places_to es t)) 0) (λ z. z) (λ p. absurd (ne (to_target es t e (omega arith)).1))

-- none of the outgoing places of another task
pub not_from : (es : List Edge) (t e : ℕ) → source es e ≢ t → times e (places_from es t) ≡ 0
not_from es t e ne = dite (ℕ_discrete (times e (places_from es t)) 0) (λ z. z) (λ p. absurd (ne (from_source es t e (omega arith)).1))

pub item_at : {A : Type 0} (xs : List A) (k : ℕ) → k < length xs → (x : A) × (slice_get xs k ≡ Some x)
item_at [] k h = absurd (omega arith)
item_at (x ∷ xs) zero h = (x, refl)
item_at (x ∷ xs) (suc k) h = item_at xs k (omega arith)

module _ {V : Type 0} where
  pub length-put_at : (known : List (Option V)) (ps : List ℕ) (vs : List V) → length (put_at known ps vs) ≡ length known
  length-put_at known [] vs = refl
  length-put_at known (p ∷ ps) [] = refl
  length-put_at known (p ∷ ps) (v ∷ vs) = length-put_at (set known p (Some v)) ps vs ∙ length-set known p (Some v)

  -- an edge that is given no value keeps what is known of it
  pub put_else : (known : List (Option V)) (ps : List ℕ) (vs : List V) (e : ℕ) → times e ps ≡ 0 → value_of (put_at known ps vs) e ≡ value_of known e
  put_else known [] vs e none = refl
  put_else known (p ∷ ps) [] e none = refl
  put_else known (p ∷ ps) (v ∷ vs) e none = dite (ℕ_discrete p e)
      (λ q. absurd (let h = times_here e p ps q in omega (arith, h, none)))
      (λ ne. put_else (set known p (Some v)) ps vs e (let h = times_else e p ps ne in omega (arith, h, none)) ∙ get_or-set_other known p e (Some v) None (λ q. ne (sym q)))

  -- the edge at the k-th place is given the k-th value
  pub put_here : (known : List (Option V)) (ps : List ℕ) (vs : List V) (k : ℕ) (v : V) → ((e : ℕ) → times e ps ≤ 1) → ((e : ℕ) → 0 < times e ps → e < length known)
      → k < length ps → slice_get vs k ≡ Some v → value_of (put_at known ps vs) (get_or ps k 0) ≡ Some v
  put_here known [] vs k v once inside lt at = absurd (omega arith)
  put_here known (p ∷ ps) [] k v once inside lt at = cc
  put_here known (p ∷ ps) (w ∷ vs) zero v once inside lt at =
      let h = times_here p p ps refl in
      let o = once p in
      put_else (set known p (Some w)) ps vs p (omega (arith, h, o)) ∙ (get_or-set_same known p (Some w) None (inside p (omega (arith, h))) ∙ at)
  put_here known (p ∷ ps) (w ∷ vs) (suc k) v once inside lt at =
      let n = length-set known p (Some w) in
      put_here (set known p (Some w)) ps vs k v (λ e. let o = once e in omega (arith, o)) (λ e h. let i = inside e (omega (arith, h)) in omega (arith, n, i)) (omega arith) at

  -- what is known of these edges is all that their values depend on
  pub values_same : (a b : List (Option V)) (ps : List ℕ) → ((e : ℕ) → 0 < times e ps → value_of a e ≡ value_of b e) → values_at a ps ≡ values_at b ps
  values_same a b [] same = refl
  values_same a b (p ∷ ps) same =
      let h = times_here p p ps refl in
      let e : value_of a p ≡ value_of b p = same p (omega (arith, h)) in
      let r : values_at a ps ≡ values_at b ps = values_same a b ps (λ e t. same e (omega (arith, t))) in
      ap (λ o. option_to_list o ++ values_at a ps) e ∙ ap (λ l. option_to_list (value_of b p) ++ l) r

  -- if each is known, there are as many values as places
  pub length-values_at : (a : List (Option V)) (ps : List ℕ) → ((e : ℕ) → 0 < times e ps → (v : V) × (value_of a e ≡ Some v)) → length (values_at a ps) ≡ length ps
  length-values_at a [] full = refl
  length-values_at a (p ∷ ps) full =
      let h = times_here p p ps refl in
      let f = full p (omega (arith, h)) in
      let r = length-values_at a ps (λ e t. full e (omega (arith, t))) in
      ap (λ o. length (option_to_list o ++ values_at a ps)) f.1 ∙ ap (λ n. suc n) r

module _ {J V O : Type 0} (output : J → List V → O) (values : J → List V → List V) (es : List Edge) where
  -- an edge from an earlier task keeps its value
  known_stays : (known : List (Option V)) (t : ℕ) (js : List J) (e : ℕ) → source es e < t → value_of (known_after output values es known t js) e ≡ value_of known e
  known_stays known t [] e lt = refl
  known_stays known t (j ∷ js) e lt =
      known_stays (known_next output values es known t j) (t + 1) js e (omega arith) ∙ put_else known (places_from es t) (values j (values_at known (places_to es t))) e (not_from es t e (λ q. omega arith))

  inputs_stay : (known : List (Option V)) (t : ℕ) (js : List J) → ((e : ℕ) → e < length es → source es e < target es e)
      → values_at (known_after output values es known t js) (places_to es t) ≡ values_at known (places_to es t)
  inputs_stay known t js forward = values_same _ _ (places_to es t) (λ e h. let r = to_target es t e h in let f = forward e r.0 in let q = r.1 in known_stays known t js e (omega (arith, f, q)))

  -- the k-th task's output is that of its job on the final values
  output_from : (known : List (Option V)) (t : ℕ) (js : List J) (k u : ℕ) (j : J) → ((e : ℕ) → e < length es → source es e < target es e)
      → u ≡ t + k → slice_get js k ≡ Some j
      → slice_get (outputs_after output values es known t js) k ≡ Some (output j (values_at (known_after output values es known t js) (places_to es u)))
  output_from known t [] k u j forward is at = cc
  output_from known t (i ∷ js) zero u j forward is at =
      let q : t ≡ u = omega arith in
      let same = inputs_stay known t (i ∷ js) forward in
      let e : i ≡ j = same_Some i j at in
      subst (λ n. Some (output i (values_at known (places_to es t))) ≡ Some (output j (values_at (known_after output values es known t (i ∷ js)) (places_to es n)))) q
      (ap (λ l. Some (output i l)) (sym same) ∙ ap (λ x. Some (output x (values_at (known_after output values es known t (i ∷ js)) (places_to es t)))) e)
  output_from known t (i ∷ js) (suc k) u j forward is at = output_from (known_next output values es known t i) (t + 1) js k u j forward (omega arith) at

  -- the final values of a task's outgoing edges are those that its job gives on the final values of its incoming ones
  value_from : (known : List (Option V)) (t : ℕ) (js : List J) (k u : ℕ) (j : J) → ((e : ℕ) → e < length es → source es e < target es e) → length known ≡ length es
      → u ≡ t + k → slice_get js k ≡ Some j → (m : ℕ) (v : V) → m < count_out es u
      → slice_get (values j (values_at (known_after output values es known t js) (places_to es u))) m ≡ Some v
      → value_of (known_after output values es known t js) (get_or (places_from es u) m 0) ≡ Some v
  value_from known t [] k u j forward len is at m v lt given = cc
  value_from known t (i ∷ js) zero u j forward len is at m v lt given =
      let q : u ≡ t = omega arith in
      let e : j ≡ i = sym (same_Some i j at) in
      let next = known_next output values es known t i in
      let same = inputs_stay known t (i ∷ js) forward in
      let lt' : m < count_out es t = subst (λ n. m < count_out es n) q lt in
      let given' : slice_get (values i (values_at known (places_to es t))) m ≡ Some v =
      ap (λ l. slice_get (values i l) m) (sym same) ∙ subst (λ x. slice_get (values x (values_at (known_after output values es known t (i ∷ js)) (places_to es t))) m ≡ Some v) e
      (subst (λ n. slice_get (values j (values_at (known_after output values es known t (i ∷ js)) (places_to es n))) m ≡ Some v) q given) in
      let there = times_at_place (places_from es t) m lt' in
      let from = from_source es t (get_or (places_from es t) m 0) there in
      let s = from.1 in
      let stays : value_of (known_after output values es next (t + 1) js) (get_or (places_from es t) m 0) ≡ value_of next (get_or (places_from es t) m 0) = known_stays next (t + 1) js _ (omega (arith, s)) in
      let here : value_of next (get_or (places_from es t) m 0) ≡ Some v = put_here known (places_from es t) _ m v (from_once es t) (λ x h. let r = (from_source es t x h).0 in omega (arith, r, len)) lt' given' in
      subst (λ n. value_of (known_after output values es known t (i ∷ js)) (get_or (places_from es n) m 0) ≡ Some v) (sym q) (stays ∙ here)
    where
      times_at_place : (ps : List ℕ) (m : ℕ) → m < length ps → 0 < times (get_or ps m 0) ps
      times_at_place [] m h = absurd (omega arith)
      times_at_place (p ∷ ps) zero h = let e = times_here p p ps refl in omega (arith, e)
      times_at_place (p ∷ ps) (suc m) h = let r = times_at_place ps m (omega arith) in omega (arith, r)
  value_from known t (i ∷ js) (suc k) u j forward len is at m v lt given =
      value_from (known_next output values es known t i) (t + 1) js k u j forward (length-put_at known (places_from es t) (values i (values_at known (places_to es t))) ∙ len) (omega arith) at m v lt given

  pub length-outputs_after : (known : List (Option V)) (t : ℕ) (js : List J) → length (outputs_after output values es known t js) ≡ length js
  length-outputs_after known t [] = refl
  length-outputs_after known t (j ∷ js) = ap suc (length-outputs_after (known_next output values es known t j) (t + 1) js)

-- what a plan keeps: each edge goes from a smaller to a larger task number, and each job takes and gives as many values as there are edges
pub record IsPlan {J V : Type 0} (takes gives : J → ℕ) (values : J → List V → List V) (es : List Edge) (js : List J) : Type 0 where
  pub forward : (e : ℕ) → e < length es → (source es e < target es e) × (target es e < length js)
  pub takes_in : (t : ℕ) (j : J) → slice_get js t ≡ Some j → takes j ≡ count_in es t
  pub gives_out : (t : ℕ) (j : J) → slice_get js t ≡ Some j → gives j ≡ count_out es t
  pub sized : (j : J) (xs : List V) → length xs ≡ takes j → length (values j xs) ≡ gives j

module _ {J V O : Type 0} (output : J → List V → O) (values : J → List V → List V) (takes gives : J → ℕ) (es : List Edge) (js : List J) (plan : IsPlan takes gives values es js) where
  none_known : length (replicate {A = Option V} (length es) None) ≡ length es
  none_known = length-replicate {A = Option V} (length es) None

  -- a task's output is that of its job on the values of the plan
  pub task_output : (u : ℕ) (j : J) → slice_get js u ≡ Some j → slice_get (outputs output values es js) u ≡ Some (output j (values_at (edge_values output values es js) (places_to es u)))
  task_output u j at = output_from output values es (replicate (length es) None) 0 js u u j (λ e h. (plan.forward e h).0) (omega arith) at

  -- the plan's values of a task's outgoing edges are those that its job gives on the values of the plan
  pub task_value : (u : ℕ) (j : J) → slice_get js u ≡ Some j → (m : ℕ) (v : V) → m < count_out es u
      → slice_get (values j (values_at (edge_values output values es js) (places_to es u))) m ≡ Some v → value_of (edge_values output values es js) (get_or (places_from es u) m 0) ≡ Some v
  task_value u j at m v lt given = value_from output values es (replicate (length es) None) 0 js u u j (λ e h. (plan.forward e h).0) none_known (omega arith) at m v lt given

  -- an edge has a value if all edges from earlier tasks have one
  known_at : (u e : ℕ) → e < length es → source es e ≡ u → ((x : ℕ) → x < length es → source es x < u → (v : V) × (value_of (edge_values output values es js) x ≡ Some v))
      → (v : V) × (value_of (edge_values output values es js) e ≡ Some v)
  known_at u e lt q below =
      let f = plan.forward e lt in
      let job = item_at js u (omega arith) in
      let ins : length (values_at (edge_values output values es js) (places_to es u)) ≡ count_in es u =
      length-values_at (edge_values output values es js) (places_to es u) (λ x h. let r = to_target es u x h in let g = plan.forward x r.0 in let t = r.1 in below x r.0 (omega (arith, g, t))) in
      let size : length (values job.0 (values_at (edge_values output values es js) (places_to es u))) ≡ count_out es u =
      plan.sized job.0 _ (ins ∙ sym (plan.takes_in u job.0 job.1)) ∙ plan.gives_out u job.0 job.1 in
      let one : times e (places_from es u) ≡ 1 = subst (λ n. times e (places_from es n) ≡ 1) q (source_from es e lt) in
      let place = times_in e (places_from es u) (omega (arith, one)) in
      let given = item_at (values job.0 (values_at (edge_values output values es js) (places_to es u))) place.0 (let b = place.1 in omega (arith, size, b)) in (
        given.0,
        subst (λ x. value_of (edge_values output values es js) x ≡ Some given.0) place.2 (task_value u job.0 job.1 place.0 given.0 place.1 given.1),
      )

  known_below : (u : ℕ) (e : ℕ) → e < length es → source es e < u → (v : V) × (value_of (edge_values output values es js) e ≡ Some v)
  known_below zero e lt s = absurd (omega arith)
  known_below (suc u) e lt s = dite (ℕ_discrete (source es e) u) (λ q. known_at u e lt q (known_below u)) (λ ne. known_below u e lt (omega arith))

  -- every edge has a value
  pub edge_known : (e : ℕ) → e < length es → (v : V) × (value_of (edge_values output values es js) e ≡ Some v)
  edge_known e lt = known_below (source es e + 1) e lt (omega arith)

  -- the plan's values of a task's incoming edges are as many as its job takes
  pub inputs_fit : (u : ℕ) (j : J) → slice_get js u ≡ Some j → length (values_at (edge_values output values es js) (places_to es u)) ≡ takes j
  inputs_fit u j at = length-values_at (edge_values output values es js) (places_to es u) (λ e h. edge_known e (to_target es u e h).0) ∙ sym (plan.takes_in u j at)

  -- a task's job gives as many values as the task has outgoing edges
  pub values_fit : (u : ℕ) (j : J) → slice_get js u ≡ Some j → length (values j (values_at (edge_values output values es js) (places_to es u))) ≡ count_out es u
  values_fit u j at = plan.sized j _ (inputs_fit u j at) ∙ plan.gives_out u j at

  pub length-outputs : length (outputs output values es js) ≡ length js
  length-outputs = length-outputs_after output values es (replicate (length es) None) 0 js
