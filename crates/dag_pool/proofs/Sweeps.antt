-- The closing pass.
use Rattle.std.proofs.Common.{◌≡◌, ℕ, ◌+◌, ◌-◌, ◌<◌, ◌≤◌, Bool, false, List, [], ◌∷◌, length, refl, ap, ◌∙◌, mod-lt, get_or, All, arith}
use Rattle.std.proofs.lemmas.Option.{slice_get_within}
use Rattle.dag_pool.specs.Outputs.{AreOutputs}
use mathlib.Core.Logic.{dite}
use native.Mathlib.Decide.{ℕ_discrete}
use Rattle.dag_core.specs.declared.plan.Edge.{Edge}
use Rattle.dag_core.specs.Places.{times}
use Rattle.dag_core.specs.Values.{source, target, places_to, count_in}
use Rattle.dag_core.proofs.Places.{times_here, times-append}
use Rattle.dag_core.proofs.Fixed.{to_target}
use Rattle.steal_board.specs.declared.view.View.{View}
use Rattle.steal_board.specs.Views.{with_mine, with_gone}
use Rattle.steal_board.specs.Rule.{total, owing}
use Rattle.dag_pool.specs.Work.{IsClean, IsLeft, NoneLeft, HasAll, sources_below}

total_none : (f : ℕ → ℕ) (ps : List ℕ) → ((e : ℕ) → 0 < times e ps → f e ≡ 0) → total f ps ≡ 0
total_none f [] none = refl
total_none f (p ∷ ps) none = let h = times_here p p ps refl in let a = none p (omega (arith, h)) in let r = total_none f ps (λ e t. none e (omega (arith, t))) in omega (arith, a, r)

module _ {V : Type 0} (es : List Edge) (n : ℕ) where
  -- a task whose earlier tasks are done has no unpaid edge
  pub none_waits : (v : View V) (task : ℕ) → ((e : ℕ) → e < length es → (source es e < target es e) × (target es e < n)) → IsClean es v → HasAll task v → owing (λ e. times e v.paid) es task ≡ 0
  none_waits v task forward clean all = total_none (λ e. 1 - times e v.paid) (places_to es task) (λ e h.
      let r = to_target es task e h in
      let f = forward e r.0 in
      let is = r.1 in
      let mine = all (source es e) (omega (arith, f, is)) in
      let paid = clean.paid e r.0 in
      omega (arith, mine, paid))

  pub all_more : (v w : View V) (task : ℕ) → w.mine ≡ (with_mine v task).mine → HasAll task v → HasAll (task + 1) w
  all_more v w task e all t lt = let m = ap (times t) e ∙ times-append t v.mine (task ∷ []) in dite (ℕ_discrete task t)
      (λ q. let h = times_here t task [] q in omega (arith, m, h))
      (λ ne. let old = all t (omega arith) in omega (arith, m, old))

  pub none_gone : (v : View V) (task : ℕ) → NoneLeft es n v → NoneLeft es n (with_gone v task)
  none_gone v task none t lt told = let h = none t lt told in let a = times-append t v.gone (task ∷ []) in omega (arith, h, a)

  -- what workers that were refused no memory leave: nothing
  pub left_none : {O : Type 0} (workers : ℕ) (os : List O) (v : View V) (ps : List (ℕ × O)) (starved : Bool) → 0 < workers → IsLeft es n workers 0 workers os v ps starved → starved ≡ false → NoneLeft es n v
  left_none workers os v ps starved some left f t lt told = dite (ℕ_discrete (count_in es t) 0)
      (λ none. left.dealt f t lt none (omega arith) (mod-lt (sources_below es t) some))
      (λ many. left.heard f t (told (omega arith)))

  -- each edge is paid once and taken once, if each task is claimed once
  pub edges_once : (v : View V) → ((e : ℕ) → e < length es → (source es e < target es e) × (target es e < n)) → IsClean es v → HasAll n v → (0 < n → (t : ℕ) → times t v.mine ≤ 1)
      → (e : ℕ) → e < length es → (times e v.paid ≡ 1) × (times e v.taken ≡ 1)
  edges_once v forward clean all once e lt =
      let f = forward e lt in
      let o = once (omega (arith, f)) in
      let a = all (source es e) (omega (arith, f)) in
      let b = all (target es e) f.1 in
      let c = o (source es e) in
      let d = o (target es e) in
      let p = clean.paid e lt in
      let t = clean.taken e lt in
      (omega (arith, a, c, p), omega (arith, b, d, t))

-- the pairs that were brought are of tasks of the plan
pub pairs_inside : {O : Type 0} (n : ℕ) (os : List O) (ps : List (ℕ × O)) → length os ≡ n → AreOutputs os ps → All (λ (pair : ℕ × O). pair.0 < n) ps
pairs_inside n os ps size right k d lt = let h = slice_get_within os (get_or ps k d).0 (get_or ps k d).1 (right k d lt) in omega (arith, h, size)
