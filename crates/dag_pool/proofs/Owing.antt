-- What a worker owes, from one step to the next.
use Rattle.std.proofs.Common.{◌≡◌, ℕ, ◌+◌, ◌<◌, ◌≤◌, Bool, false, List, [], ◌∷◌, ◌++◌, sym, refl, ap, ◌∙◌, subst, inl, inr, ⊎_elim, ◌⊎◌, arith}
use mathlib.Core.Logic.{dite}
use native.Mathlib.Decide.{ℕ_discrete}
use Rattle.dag_core.specs.declared.plan.Edge.{Edge}
use Rattle.dag_core.specs.Places.{times}
use Rattle.dag_core.specs.Values.{count_in}
use Rattle.dag_core.proofs.Places.{times_here, times_else, times-append}
use Rattle.steal_board.specs.declared.view.View.{View}
use Rattle.steal_board.specs.Views.{with_mine, with_gone, with_ready, with_paid}
use Rattle.dag_pool.specs.Work.{IsOwed, Took}

-- of a task, what is due, was claimed or was found claimed
abbrev seen : {V : Type 0} → List ℕ → View V → ℕ → ℕ
seen due v t = times t due + times t v.mine + times t v.gone

module _ {V : Type 0} (es : List Edge) (n workers k : ℕ) where
  owed_step : (v w : View V) (due due' : List ℕ) (starved starved' : Bool) → IsOwed es n workers k v due starved
      → (starved' ≡ false → starved ≡ false)
      → (starved' ≡ false → (t : ℕ) → 0 < seen due v t → 0 < seen due' w t)
      → (starved' ≡ false → (t : ℕ) → 0 < times t w.ready → (0 < times t v.ready) ⊎ (0 < seen due' w t))
      → ((t : ℕ) → 0 < times t due' → (t < n) × (0 < count_in es t → 0 < times t w.ready))
      → IsOwed es n workers k w due' starved'
  owed_step v w due due' starved starved' o fed kept new valid = record {
    heard = λ f t r. ⊎_elim (λ old. kept f t (o.heard (fed f) t old)) (λ here. here) (new f t r);
    dealt = λ f t lt none mine. kept f t (o.dealt (fed f) t lt none mine);
    valid = valid;
  }

  -- a claim that was won takes the task off what is due
  pub owed_mine : (v w : View V) (task : ℕ) (due : List ℕ) (starved : Bool) → w ≡ with_mine v task → IsOwed es n workers k v (task ∷ due) starved → IsOwed es n workers k w due starved
  owed_mine v w task due starved e o = subst (λ u. IsOwed es n workers k u due starved) (sym e)
      (owed_step v (with_mine v task) (task ∷ due) due starved starved o (λ f. f)
      (λ f t s. let a = times-append t v.mine (task ∷ []) in omega (arith, a, s))
      (λ f t r. inl r)
      (λ t d. o.valid t (omega (arith, d))))

  -- what is due stays so for a worker that found the task claimed by another
  pub owed_gone : (v w : View V) (task : ℕ) (due : List ℕ) (starved : Bool) → w ≡ with_gone v task → IsOwed es n workers k v (task ∷ due) starved → IsOwed es n workers k w due starved
  owed_gone v w task due starved e o = subst (λ u. IsOwed es n workers k u due starved) (sym e)
      (owed_step v (with_gone v task) (task ∷ due) due starved starved o (λ f. f)
      (λ f t s. let a = times-append t v.gone (task ∷ []) in omega (arith, a, s))
      (λ f t r. inl r)
      (λ t d. o.valid t (omega (arith, d))))

  -- a task that was not due
  pub owed_mine_else : (v w : View V) (task : ℕ) (due : List ℕ) (starved : Bool) → w ≡ with_mine v task → IsOwed es n workers k v due starved → IsOwed es n workers k w due starved
  owed_mine_else v w task due starved e o = subst (λ u. IsOwed es n workers k u due starved) (sym e)
      (owed_step v (with_mine v task) due due starved starved o (λ f. f)
      (λ f t s. let a = times-append t v.mine (task ∷ []) in omega (arith, a, s))
      (λ f t r. inl r)
      o.valid)

  pub owed_gone_else : (v w : View V) (task : ℕ) (due : List ℕ) (starved : Bool) → w ≡ with_gone v task → IsOwed es n workers k v due starved → IsOwed es n workers k w due starved
  owed_gone_else v w task due starved e o = subst (λ u. IsOwed es n workers k u due starved) (sym e)
      (owed_step v (with_gone v task) due due starved starved o (λ f. f)
      (λ f t s. let a = times-append t v.gone (task ∷ []) in omega (arith, a, s))
      (λ f t r. inl r)
      o.valid)

  pub owed_inside : (v : View V) (task : ℕ) (due : List ℕ) (starved : Bool) → IsOwed es n workers k v (task ∷ due) starved → task < n
  owed_inside v task due starved o = let h = times_here task task due refl in (o.valid task (omega (arith, h))).0

  -- the inputs of a task were taken
  pub owed_took : (v w : View V) (edges due : List ℕ) (starved : Bool) → Took v edges w → IsOwed es n workers k v due starved → IsOwed es n workers k w due starved
  owed_took v w edges due starved took o = subst (λ u. IsOwed es n workers k u due starved) (sym took.same) (record { heard = o.heard; dealt = o.dealt; valid = o.valid })

  -- an edge was paid, a task became ready, and it is due unless memory was refused
  pub owed_ready : (v w : View V) (edge task : ℕ) (due due' : List ℕ) (starved starved' : Bool) → w ≡ with_ready (with_paid v edge) task → task < n
      → (starved' ≡ false → (starved ≡ false) × ((t : ℕ) → times t due' ≡ times t due + times t (task ∷ [])))
      → ((t : ℕ) → times t due' ≤ times t due + times t (task ∷ []))
      → IsOwed es n workers k v due starved → IsOwed es n workers k w due' starved'
  owed_ready v w edge task due due' starved starved' e lt noted most o = subst (λ u. IsOwed es n workers k u due' starved') (sym e)
      (owed_step v (with_ready (with_paid v edge) task) due due' starved starved' o (λ f. (noted f).0)
      (λ f t s. let a = (noted f).1 t in omega (arith, a, s))
      (λ f t r. let a = (noted f).1 t in let b = times-append t v.ready (task ∷ []) in dite (ℕ_discrete (times t v.ready) 0) (λ z. inr (omega (arith, a, b, r, z))) (λ p. inl (omega arith)))
      (λ t d. let b = times-append t v.ready (task ∷ []) in dite (ℕ_discrete task t)
      (λ q. (subst (λ x. x < n) q lt, λ some. let h = times_here t task [] q in omega (arith, b, h)))
      (λ ne. let h = times_else t task [] ne in let m = most t in let r = o.valid t (omega (arith, h, m, d)) in (r.0, λ some. let s = r.1 some in omega (arith, b, s)))))

  -- the task that was popped is still due
  pub owed_popped : (v : View V) (due rest : List ℕ) (task : ℕ) (starved : Bool) → due ≡ rest ++ task ∷ [] → IsOwed es n workers k v due starved → IsOwed es n workers k v (task ∷ rest) starved
  owed_popped v due rest task starved e o = owed_step v v due (task ∷ rest) starved starved o (λ f. f) (λ f t s. let a = same t in omega (arith, a, s)) (λ f t r. inl r) (λ t d. o.valid t (let a = same t in omega (arith, a, d)))
    where
      same : (t : ℕ) → times t due ≡ times t (task ∷ rest)
      same t = let a = ap (times t) e ∙ times-append t rest (task ∷ []) in dite (ℕ_discrete task t)
          (λ q. let b = times_here t task [] q in let c = times_here t task rest q in omega (arith, a, b, c))
          (λ ne. let b = times_else t task [] ne in let c = times_else t task rest ne in omega (arith, a, b, c))
