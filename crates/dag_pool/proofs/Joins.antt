-- What two groups of workers leave, together.
use Rattle.std.proofs.Common.{◌≡◌, ℕ, ◌+◌, Bool, false, cond, eqb, List, [], ◌∷◌, ◌++◌, Some, refl, arith}
use mathlib.Core.Logic.{dite}
use native.Mathlib.Decide.{ℕ_discrete, dec_lt}
use Rattle.std.specs.Prelude.{slice_get}
use Rattle.std.proofs.lemmas.List.Elements.{All-append}
use Rattle.dag_core.specs.declared.plan.Edge.{Edge}
use Rattle.dag_core.specs.Places.{times}
use Rattle.dag_core.specs.Values.{source, target}
use Rattle.dag_core.proofs.Places.{times-append}
use Rattle.steal_board.specs.declared.view.View.{View}
use Rattle.steal_board.specs.Views.{joined}
use Rattle.dag_pool.specs.Outputs.{times_in}
use Rattle.dag_pool.specs.Work.{IsSound, IsOwed, IsLeft, dealt_to}

times_in-append : {O : Type 0} (t : ℕ) (xs bs : List (ℕ × O)) → times_in t (xs ++ bs) ≡ times_in t xs + times_in t bs
times_in-append t [] bs = omega arith
times_in-append t (a ∷ xs) bs = let h = times_in-append t xs bs in let c : ℕ = cond (eqb a.0 t) 1 0 in let s : times_in t ((a ∷ xs) ++ bs) ≡ c + times_in t (xs ++ bs) = refl in omega arith

module _ {V O : Type 0} (es : List Edge) (n workers : ℕ) (os : List O) where
  pub left_both : (low middle high : ℕ) (v w : View V) (ps qs : List (ℕ × O)) (starved also both : Bool) → (both ≡ false → (starved ≡ false) × (also ≡ false))
      → IsLeft es n workers low middle os v ps starved → IsLeft es n workers middle high os w qs also → IsLeft es n workers low high os (joined v w) (ps ++ qs) both
  left_both low middle high v w ps qs starved also both neither a b = record {
    clean = record {
      paid = λ e lt. let x = a.clean.paid e lt in let y = b.clean.paid e lt in let p = times-append e v.paid w.paid in let m = times-append (source es e) v.mine w.mine in omega (arith, x, y, p, m);
      taken = λ e lt. let x = a.clean.taken e lt in let y = b.clean.taken e lt in let p = times-append e v.taken w.taken in let m = times-append (target es e) v.mine w.mine in omega (arith, x, y, p, m);
    };
    brings = record {
      right = All-append (λ (pair : ℕ × O). slice_get os pair.0 ≡ Some pair.1) ps qs a.brings.right b.brings.right;
      all = λ t. let x = a.brings.all t in let y = b.brings.all t in let p = times_in-append t ps qs in let m = times-append t v.mine w.mine in omega (arith, x, y, p, m);
    };
    heard = λ f t r. let p = times-append t v.ready w.ready in let m = times-append t v.mine w.mine in let q = times-append t v.gone w.gone in
        dite (ℕ_discrete (times t v.ready) 0)
        (λ z. let h = b.heard (neither f).1 t (omega (arith, p, z, r)) in omega (arith, h, m, q))
        (λ some. let h = a.heard (neither f).0 t (omega arith) in omega (arith, h, m, q));
    dealt = λ f t lt none above below. let m = times-append t v.mine w.mine in let q = times-append t v.gone w.gone in
        dite (dec_lt (dealt_to es workers t) middle)
        (λ under. let h = a.dealt (neither f).0 t lt none above under in omega (arith, h, m, q))
        (λ over. let h = b.dealt (neither f).1 t lt none (omega arith) below in omega (arith, h, m, q));
  }

  -- a worker to whom nothing is due
  pub left_one : (number : ℕ) (v : View V) (ps : List (ℕ × O)) (starved : Bool) → IsSound es n os v ps → IsOwed es n workers number v [] starved → IsLeft es n workers number (number + 1) os v ps starved
  left_one number v ps starved s o = record {
    clean = s.clean;
    brings = s.brings;
    heard = λ f t r. let h = o.heard f t r in omega (arith, h);
    dealt = λ f t lt none above below. let h = o.dealt f t lt none (omega arith) in omega (arith, h);
  }
