-- One task: its inputs are taken, its edges are paid, and its output stands.
use Rattle.std.proofs.Common.{◌≡◌, ℕ, zero, suc, ◌+◌, ◌<◌, ◌≤◌, List, [], ◌∷◌, ◌++◌, length, get_or, take, drop, Option, Some, sym, refl, ap, ◌∙◌, subst, append_assoc, cond, eqb, arith}
use mathlib.Core.Logic.{dite}
use native.Mathlib.Decide.{ℕ_discrete}
use Rattle.std.specs.Prelude.{slice_get, reverse}
use Rattle.std.specs.Option.{option_to_list}
use Rattle.std.proofs.lemmas.List.{take_more, reverse-append}
use Rattle.std.proofs.lemmas.List.Elements.{All-append}
use Rattle.dag_core.specs.declared.plan.Edge.{Edge}
use Rattle.dag_core.specs.Places.{times}
use Rattle.dag_core.specs.Values.{source, target, places_to, places_from, value_of, values_at}
use Rattle.dag_core.proofs.Places.{times_here, times_else, times-append, times_at}
use Rattle.dag_core.proofs.Fixed.{from_source, source_from, to_target, target_to, to_once, from_once, not_to, not_from}
use Rattle.steal_board.specs.declared.view.View.{View}
use Rattle.steal_board.specs.Views.{with_ready, with_paid, with_taken}
use Rattle.dag_pool.specs.Outputs.{AreOutputs, times_in}
use Rattle.dag_pool.specs.Work.{Took, Paid, IsSound, IsBegun}

-- the i-th place of a list without repetition
pub record IsPlace (places : List ℕ) (i p : ℕ) : Type 0 where
  pub some : 0 < times p places
  pub before : times p (take i places) ≡ 0

pub place_at : (places : List ℕ) (i p : ℕ) → ((e : ℕ) → times e places ≤ 1) → i < length places → get_or places i 0 ≡ p → IsPlace places i p
place_at places i p once lt e = subst (IsPlace places i) e (let a = times_at places i lt in let b = once (get_or places i 0) in record { some = omega (arith, a); before = omega (arith, a, b) })

times_more : (places : List ℕ) (i p e : ℕ) → i < length places → get_or places i 0 ≡ p → times e (take (i + 1) places) ≡ times e (take i places) + times e (p ∷ [])
times_more places i p e lt at = ap (times e) (take_more places i 0 lt) ∙ (times-append e (take i places) (get_or places i 0 ∷ []) ∙ ap (λ x. times e (take i places) + times e (x ∷ [])) at)

-- the place in turn, of the edges that go to a task
pub record IsInto (es : List Edge) (task : ℕ) (places : List ℕ) (i p : ℕ) : Type 0 where
  pub inside : p < length es
  pub is : target es p ≡ task
  pub before : times p (take i places) ≡ 0

pub place_into : (es : List Edge) (task : ℕ) (places : List ℕ) (i : ℕ) → places ≡ places_to es task → i < length places → IsInto es task places i (get_or places i 0)
place_into es task places i e lt =
    let at = place_at places i (get_or places i 0) (λ x. subst (λ l. times x l ≤ 1) (sym e) (to_once es task x)) lt refl in
    let r = to_target es task (get_or places i 0) (subst (λ l. 0 < times (get_or places i 0) l) e at.some) in
    record { inside = r.0; is = r.1; before = at.before }

-- the place `p` is the `i`-th of the edges that go from the task
pub record IsFrom (es : List Edge) (task : ℕ) (places : List ℕ) (i p : ℕ) : Type 0 where
  pub inside : p < length es
  pub is : source es p ≡ task
  pub before : times p (take i places) ≡ 0

pub place_from : (es : List Edge) (task : ℕ) (places : List ℕ) (i : ℕ) → places ≡ places_from es task → i < length places → IsFrom es task places i (get_or places i 0)
place_from es task places i e lt =
    let at = place_at places i (get_or places i 0) (λ x. subst (λ l. times x l ≤ 1) (sym e) (from_once es task x)) lt refl in
    let r = from_source es task (get_or places i 0) (subst (λ l. 0 < times (get_or places i 0) l) e at.some) in
    record { inside = r.0; is = r.1; before = at.before }

-- the value that is popped from the values in reverse is the next
pub popped : {V : Type 0} (rest left values : List V) (value : V) (i : ℕ) → rest ≡ left ++ value ∷ [] → reverse rest ≡ drop i values → (slice_get values i ≡ Some value) × (reverse left ≡ drop (i + 1) values)
popped {V} rest left values value i e r = next values i (sym (sym (reverse-append left (value ∷ [])) ∙ (ap reverse (sym e) ∙ r)))
  where
    next : (vs : List V) (k : ℕ) → drop k vs ≡ value ∷ reverse left → (slice_get vs k ≡ Some value) × (reverse left ≡ drop (k + 1) vs)
    next [] zero h = cc
    next [] (suc k) h = cc
    next (v ∷ vs) zero h = (cc, cc)
    next (v ∷ vs) (suc k) h = let z : suc (k + 1) ≡ suc k + 1 = omega arith in let r = next vs k h in (r.0, r.1 ∙ ap (λ m. drop m (v ∷ vs)) z)

module _ {V : Type 0} where
  pub took_none : (v : View V) (places : List ℕ) → Took v (take 0 places) v
  took_none v places = record { same = refl; counts = λ e. let z : times e (take 0 places) ≡ 0 = refl in omega (arith, z) }

  pub took_more : (v w x : View V) (places : List ℕ) (i p : ℕ) → i < length places → get_or places i 0 ≡ p → x ≡ with_taken w p → Took v (take i places) w → Took v (take (i + 1) places) x
  took_more v w x places i p lt at e took = subst (Took v (take (i + 1) places)) (sym e) (record {
    same = ap (λ (u : View V). with_taken u p) took.same;
    counts = λ y. let a = took.counts y in let b = times-append y w.taken (p ∷ []) in let c = times_more places i p y lt at in omega (arith, a, b, c);
  })

  pub paid_more : (v w x : View V) (places : List ℕ) (i p : ℕ) → i < length places → get_or places i 0 ≡ p → Paid v (take i places) w → Paid w (p ∷ []) x → Paid v (take (i + 1) places) x
  paid_more v w x places i p lt at a b = record {
    same = b.same ∙ ap (λ (u : View V). record u { paid = x.paid; ready = x.ready }) a.same;
    counts = λ y. let m = a.counts y in let n = b.counts y in let c = times_more places i p y lt at in omega (arith, m, n, c);
    ready = λ t. let m = a.ready t in let n = b.ready t in omega (arith, m, n);
  }

  -- one edge is paid, and its target may be ready
  pub paid_one : (v w : View V) (p : ℕ) → w ≡ with_paid v p → Paid v (p ∷ []) w
  paid_one v w p e = subst (Paid v (p ∷ [])) (sym e) (record { same = refl; counts = λ y. times-append y v.paid (p ∷ []); ready = λ t. omega arith })

  pub paid_ready : (v w : View V) (p task : ℕ) → w ≡ with_ready (with_paid v p) task → Paid v (p ∷ []) w
  paid_ready v w p task e = subst (Paid v (p ∷ [])) (sym e) (record { same = refl; counts = λ y. times-append y v.paid (p ∷ []); ready = λ t. let a = times-append t v.ready (task ∷ []) in omega (arith, a) })

  pub values_more : (vals : List (Option V)) (places : List ℕ) (i p : ℕ) (value : V) → i < length places → get_or places i 0 ≡ p → value_of vals p ≡ Some value
      → values_at vals (take (i + 1) places) ≡ values_at vals (take i places) ++ value ∷ []
  values_more vals places i p value lt at e = ap (values_at vals) (take_more places i 0 lt) ∙ (snoc (take i places) (get_or places i 0) ∙ ap (λ o. values_at vals (take i places) ++ (option_to_list o ++ [])) (ap (value_of vals) at ∙ e))
    where
      snoc : (ps : List ℕ) (q : ℕ) → values_at vals (ps ++ q ∷ []) ≡ values_at vals ps ++ (option_to_list (value_of vals q) ++ [])
      snoc [] q = refl
      snoc (x ∷ xs) q = ap (λ l. option_to_list (value_of vals x) ++ l) (snoc xs q) ∙ sym (append_assoc (option_to_list (value_of vals x)) (values_at vals xs) (option_to_list (value_of vals q) ++ []))

  -- what was claimed just now has taken nothing and paid nothing
  pub begun_untaken : {O : Type 0} (es : List Edge) (n : ℕ) (os : List O) (task : ℕ) (v : View V) (ps : List (ℕ × O)) → IsBegun es n os task v ps → (e : ℕ) → e < length es → target es e ≡ task → times e v.taken ≡ 0
  begun_untaken es n os task v ps b e lt is = ap (λ (u : View V). times e u.taken) b.claimed ∙ (b.sound.clean.taken e lt ∙ (ap (λ t. times t b.before.mine) is ∙ b.fresh))

  pub begun_unpaid : {O : Type 0} (es : List Edge) (n : ℕ) (os : List O) (task : ℕ) (v : View V) (ps : List (ℕ × O)) → IsBegun es n os task v ps → (e : ℕ) → e < length es → source es e ≡ task → times e v.paid ≡ 0
  begun_unpaid es n os task v ps b e lt is = ap (λ (u : View V). times e u.paid) b.claimed ∙ (b.sound.clean.paid e lt ∙ (ap (λ t. times t b.before.mine) is ∙ b.fresh))

  pub begun_mine : {O : Type 0} (es : List Edge) (n : ℕ) (os : List O) (task : ℕ) (v : View V) (ps : List (ℕ × O)) → IsBegun es n os task v ps → 0 < times task v.mine
  begun_mine es n os task v ps b = let e = ap (λ (u : View V). times task u.mine) b.claimed in let a = times-append task b.before.mine (task ∷ []) in let h = times_here task task [] refl in omega (arith, e, a, h)

  -- the task is done
  pub sound_next : {O : Type 0} (es : List Edge) (n : ℕ) (os : List O) (task : ℕ) (v w x : View V) (ps : List (ℕ × O)) (o : O) → task < n → IsBegun es n os task v ps
      → Took v (places_to es task) w → Paid w (places_from es task) x → slice_get os task ≡ Some o → IsSound es n os x (ps ++ (task, o) ∷ [])
  sound_next {O} es n os task v w x ps o lt b took paid right = record {
    clean = record {
      paid = λ e le. let a = paid.counts e in let t = ap (λ (u : View V). times e u.paid) took.same in let c = ap (λ (u : View V). times e u.paid) b.claimed in let old = b.sound.clean.paid e le in let m = mine (source es e) in
          let same : times e (places_from es task) ≡ times (source es e) (task ∷ []) = dite (ℕ_discrete task (source es e))
          (λ q. subst (λ k. times e (places_from es k) ≡ times (source es e) (k ∷ [])) (sym q) (source_from es e le ∙ sym (times_here (source es e) (source es e) [] refl)))
          (λ ne. not_from es task e (λ q. ne (sym q)) ∙ sym (times_else (source es e) task [] ne)) in
          omega (arith, a, t, c, old, m, same);
      taken = λ e le. let a = took.counts e in let t = ap (λ (u : View V). times e u.taken) paid.same in let c = ap (λ (u : View V). times e u.taken) b.claimed in let old = b.sound.clean.taken e le in let m = mine (target es e) in
          let same : times e (places_to es task) ≡ times (target es e) (task ∷ []) = dite (ℕ_discrete task (target es e))
          (λ q. subst (λ k. times e (places_to es k) ≡ times (target es e) (k ∷ [])) (sym q) (target_to es e le ∙ sym (times_here (target es e) (target es e) [] refl)))
          (λ ne. not_to es task e (λ q. ne (sym q)) ∙ sym (times_else (target es e) task [] ne)) in
          omega (arith, a, t, c, old, m, same);
    };
    brings = record {
      right = All-append (λ (pair : ℕ × O). slice_get os pair.0 ≡ Some pair.1) ps ((task, o) ∷ []) b.sound.brings.right (one right);
      all = λ t. let old = b.sound.brings.all t in let m = mine t in let a = times_in-append t ps ((task, o) ∷ []) in omega (arith, old, m, a);
    };
    once = λ t. let m = mine t in let old = b.sound.once t in dite (ℕ_discrete task t)
        (λ q. let h = times_here t task [] q in let f = subst (λ k. times k b.before.mine ≡ 0) q b.fresh in omega (arith, m, h, f))
        (λ ne. let h = times_else t task [] ne in omega (arith, m, h, old));
    inside = λ t le. let m = mine t in let old = b.sound.inside t le in let h = times_else t task [] (λ q. omega arith) in omega (arith, m, old, h);
  }
    where
      mine : (t : ℕ) → times t x.mine ≡ times t b.before.mine + times t (task ∷ [])
      mine t = ap (λ (u : View V). times t u.mine) paid.same ∙ (ap (λ (u : View V). times t u.mine) took.same ∙ (ap (λ (u : View V). times t u.mine) b.claimed ∙ times-append t b.before.mine (task ∷ [])))

      one : slice_get os task ≡ Some o → AreOutputs os ((task, o) ∷ [])
      one p zero d h = p
      one p (suc k) d h = absurd (omega arith)

      times_in-append : (t : ℕ) (xs bs : List (ℕ × O)) → times_in t (xs ++ bs) ≡ times_in t xs + times_in t bs
      times_in-append t [] bs = omega arith
      times_in-append t (a ∷ xs) bs = let h = times_in-append t xs bs in let c : ℕ = cond (eqb a.0 t) 1 0 in let s : times_in t ((a ∷ xs) ++ bs) ≡ c + times_in t (xs ++ bs) = refl in omega arith
