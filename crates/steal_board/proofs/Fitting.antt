-- What each view keeps, after each kind of step.
use Rattle.std.proofs.Common.{◌≡◌, ℕ, ◌+◌, ◌<◌, ◌≤◌, List, [], ◌∷◌, ◌++◌, length, sym, refl, subst, arith}
use mathlib.Core.Logic.{dite}
use native.Mathlib.Decide.{ℕ_discrete}
use Rattle.dag_core.specs.Places.{times}
use Rattle.dag_core.specs.Values.{source, target}
use Rattle.dag_core.proofs.Places.{times_here, times_else, times-append}
use Rattle.steal_board.specs.declared.view.Paper.{Paper}
use Rattle.steal_board.specs.declared.view.View.{View}
use Rattle.steal_board.specs.Views.{seat_view, with_share, with_mine, with_gone, with_ready, with_taken, turning, settling, joined, spent}
use Rattle.steal_board.specs.Rule.{IsFit}

module _ {T : Type 0} (v : View T) (has : 0 < v.share) (fit : IsFit v.paper v) where
  pub fit_mine : (t : ℕ) → IsFit v.paper (with_mine v t)
  fit_mine t = record {
    same = λ h. refl;
    idle = λ z. absurd (omega (arith, z));
    sent = λ e. let h = fit.sent e in let a = times-append (source v.paper.edges e) v.mine (t ∷ []) in omega (arith, h, a);
    got = λ e. let h = fit.got e in let a = times-append (target v.paper.edges e) v.mine (t ∷ []) in omega (arith, h, a);
    bound = fit.bound;
  }

  pub fit_gone : (t : ℕ) → IsFit v.paper (with_gone v t)
  fit_gone t = record { same = λ h. refl; idle = λ z. absurd (omega (arith, z)); sent = fit.sent; got = fit.got; bound = fit.bound }

  pub fit_ready : (t : ℕ) → IsFit v.paper (with_ready v t)
  fit_ready t = record { same = λ h. refl; idle = λ z. absurd (omega (arith, z)); sent = fit.sent; got = fit.got; bound = fit.bound }

  pub fit_share : (n : ℕ) → 0 < n → IsFit v.paper (with_share v n)
  fit_share n h = record { same = λ h. refl; idle = λ z. absurd (omega (arith, z, h)); sent = fit.sent; got = fit.got; bound = fit.bound }

  pub fit_turning : (e : ℕ) → e < length v.paper.edges → 0 < times (source v.paper.edges e) v.mine → times e v.turn + times e v.paid ≡ 0 → IsFit v.paper (turning v e)
  fit_turning e lt claimed unpaid = record {
    same = λ h. refl;
    idle = λ z. absurd (omega (arith, z));
    sent = λ x. dite (ℕ_discrete e x)
        (λ q. subst (λ n. times n (e ∷ v.turn) + times n v.paid ≤ times (source v.paper.edges n) v.mine) q (let h = times_here e e v.turn refl in omega (arith, h, unpaid, claimed)))
        (λ ne. let h = times_else x e v.turn ne in let s = fit.sent x in omega (arith, h, s));
    got = fit.got;
    bound = λ x le. let h = times_else x e v.turn (λ q. omega arith) in let b = fit.bound x le in omega (arith, h, b);
  }

  pub fit_taken : (e : ℕ) → e < length v.paper.edges → 0 < times (target v.paper.edges e) v.mine → times e v.taken ≡ 0 → IsFit v.paper (with_taken v e)
  fit_taken e lt claimed untaken = record {
    same = λ h. refl;
    idle = λ z. absurd (omega (arith, z));
    sent = fit.sent;
    got = λ x. let a = times-append x v.taken (e ∷ []) in dite (ℕ_discrete e x)
        (λ q. subst (λ n. times n (v.taken ++ e ∷ []) ≤ times (target v.paper.edges n) v.mine) q (let h = times_here e e [] refl in let b = times-append e v.taken (e ∷ []) in omega (arith, h, b, untaken, claimed)))
        (λ ne. let h = times_else x e [] ne in let s = fit.got x in omega (arith, h, s, a));
    bound = λ x le. let h = times_else x e [] (λ q. omega arith) in let a = times-append x v.taken (e ∷ []) in let b = fit.bound x le in omega (arith, h, a, b);
  }

  pub fit_settling : (e : ℕ) (r : List ℕ) → v.turn ≡ e ∷ r → IsFit v.paper (settling v e)
  fit_settling e r is = record {
    same = λ h. refl;
    idle = λ z. absurd (omega (arith, z));
    sent = λ x. let m = moves x in let s = fit.sent x in omega (arith, m, s);
    got = fit.got;
    bound = λ x le. let m = moves x in let b = fit.bound x le in omega (arith, m, b);
  }
    where
      moves : (x : ℕ) → times x (settling v e).turn + times x (settling v e).paid ≡ times x v.turn + times x v.paid
      moves x =
          let a = times-append x v.paid (e ∷ []) in
          let P : List ℕ → Type 0 = λ l. times x (settling (record v { turn = l }) e).turn + times x (v.paid ++ e ∷ []) ≡ times x l + times x v.paid in
          subst P (sym is) (omega (arith, a))

  pub fit_joined : (w : View T) → IsFit v.paper w → IsFit v.paper (joined v w)
  fit_joined w other = record {
    same = λ h. refl;
    idle = λ z. absurd (omega (arith, z));
    sent = λ e.
        let a = times-append e v.turn w.turn in
        let b = times-append e v.paid w.paid in
        let c = times-append (source v.paper.edges e) v.mine w.mine in
        let s = fit.sent e in
        let o = other.sent e in omega (arith, a, b, c, s, o);
    got = λ e.
        let a = times-append e v.taken w.taken in
        let c = times-append (target v.paper.edges e) v.mine w.mine in
        let s = fit.got e in
        let o = other.got e in omega (arith, a, c, s, o);
    bound = λ e le.
        let a = times-append e v.turn w.turn in
        let b = times-append e v.paid w.paid in
        let c = times-append e v.taken w.taken in
        let s = fit.bound e le in
        let o = other.bound e le in omega (arith, a, b, c, s, o);
  }

pub fit_new : {T : Type 0} (p : Paper T) (n : ℕ) → 0 < n → IsFit p (seat_view p n)
fit_new p n h = record { same = λ h. refl; idle = λ z. absurd (omega (arith, z, h)); sent = λ e. omega arith; got = λ e. omega arith; bound = λ e le. omega arith }

pub fit_spent : {T : Type 0} (p : Paper T) → IsFit p (spent {T = T})
fit_spent p = record { same = λ h. absurd (omega (arith, h)); idle = λ z x. omega arith; sent = λ e. omega arith; got = λ e. omega arith; bound = λ e le. omega arith }
