-- What a view keeps when the history grows, and after each step.
use Rattle.std.proofs.Common.{◌≡◌, ℕ, ◌+◌, ◌<◌, ◌≤◌, List, [], ◌∷◌, ◌++◌, length, refl, subst, arith, length-append}
use mathlib.Core.Logic.{dite}
use native.Mathlib.Decide.{ℕ_discrete}
use Rattle.vote_desk.specs.declared.view.View.{View}
use Rattle.vote_desk.specs.Counts.{times}
use Rattle.vote_desk.specs.Histories.{IsFront}
use Rattle.vote_desk.specs.Views.{first_view, with_share, parted, holding, returning, adding, joined, spent}
use Rattle.vote_desk.specs.Rule.{IsFit}
use Rattle.vote_desk.proofs.Counts.{times-append, times_else, times-merged, ascending_push, ascending_merged}
use Rattle.vote_desk.proofs.Fronts.{front_self, front_more, front_trans, front_length, shorter_longer, longer_length}

module _ {O E : Type 0} (o : O) (log : List E) where
  pub fit_first : IsFit o [] (first_view {E = E} o)
  fit_first = record { same = λ has. refl; idle = λ z. absurd (omega (arith, z)); seen = ([], refl); heard = ([], refl); rises = tt; below = λ p h. absurd (omega (arith, h)); knows = λ has. refl }

  pub fit_share : (v : View O E) → 0 < v.share → IsFit o log v → (n : ℕ) → 0 < n → IsFit o log (with_share v n)
  fit_share v has fit n some_left = record { same = λ h. fit.same has; idle = λ z. absurd (omega (arith, z, some_left)); seen = fit.seen; heard = fit.heard; rises = fit.rises; below = fit.below; knows = fit.knows }

  pub fit_parted : (v : View O E) → 0 < v.share → IsFit o log v → IsFit o log (parted v)
  fit_parted v has fit = record { same = λ h. fit.same has; idle = λ z. absurd (omega (arith, z)); seen = fit.seen; heard = fit.heard; rises = tt; below = λ p h. absurd (omega (arith, h)); knows = λ h. absurd (omega (arith, h)) }

  pub fit_holding : (v : View O E) → 0 < v.share → IsFit o log v → IsFit o log (holding v log)
  fit_holding v has fit = record {
    same = fit.same;
    idle = λ z. absurd (omega (arith, z, has));
    seen = front_self log;
    heard = front_trans v.heard v.seen log fit.heard fit.seen;
    rises = fit.rises;
    below = λ p h. let a = fit.below p h in let b = front_length v.seen log fit.seen in omega (arith, a, b);
    knows = λ h. refl;
  }

  pub fit_returning : (v : View O E) → 0 < v.share → IsFit o log v → IsFit o log (returning v)
  fit_returning v has fit = record { same = fit.same; idle = λ z. absurd (omega (arith, z, has)); seen = fit.seen; heard = fit.heard; rises = fit.rises; below = fit.below; knows = λ h. absurd (omega (arith, h)) }

  -- the history goes on, and another pass no longer has the slot
  pub fit_longer : (v : View O E) (entry : E) → v.out ≡ 0 → IsFit o log v → IsFit o (log ++ entry ∷ []) v
  fit_longer v entry calm fit = record { same = fit.same; idle = fit.idle; seen = front_more v.seen log (entry ∷ []) fit.seen; heard = fit.heard; rises = fit.rises; below = fit.below; knows = λ h. absurd (omega (arith, h, calm)) }

  pub fit_adding : (v : View O E) (entry : E) → 0 < v.share → v.seen ≡ log → IsFit o log v → IsFit o (log ++ entry ∷ []) (adding v entry)
  fit_adding v entry has is fit = record {
    same = fit.same;
    idle = λ z. absurd (omega (arith, z, has));
    seen = subst (λ l. IsFront (v.seen ++ entry ∷ []) (l ++ entry ∷ [])) is (front_self (v.seen ++ entry ∷ []));
    heard = front_more v.heard v.seen (entry ∷ []) fit.heard;
    rises = ascending_push v.mine (length v.seen) fit.rises fit.below;
    below = λ p h.
        let a = times-append p v.mine (length v.seen ∷ []) in
        let n = length-append v.seen (entry ∷ []) in
        dite (ℕ_discrete (times p v.mine) 0)
        (λ z. dite (ℕ_discrete (length v.seen) p) (λ e. omega (arith, n, e)) (λ ne. absurd (let t = times_else p (length v.seen) [] ne in omega (arith, a, z, t, h))))
        (λ nz. let b = fit.below p (omega arith) in omega (arith, b, n));
    knows = λ h. absurd (omega (arith, h));
  }

  pub fit_joined : (v w : View O E) → 0 < v.share → v.out + w.out ≡ 0 → ((x : ℕ) → times x v.mine + times x w.mine ≤ 1) → IsFit o log v → IsFit o log w → IsFit o log (joined v w)
  fit_joined v w has calm apart fit fit' =
      let fronts = shorter_longer v.seen w.seen log fit.seen fit'.seen in
      let long = longer_length v.seen w.seen in record {
        same = λ h. fit.same has;
        idle = λ z. absurd (omega (arith, z, has));
        seen = fronts.1;
        heard = fronts.0;
        rises = ascending_merged v.mine w.mine apart fit.rises fit'.rises;
        below = λ p h.
            let m = times-merged p v.mine w.mine in
            dite (ℕ_discrete (times p v.mine) 0)
            (λ z. let b = fit'.below p (omega (arith, m, z, h)) in omega (arith, b, long))
            (λ nz. let b = fit.below p (omega arith) in omega (arith, b, long));
        knows = λ h. absurd (omega (arith, h, calm));
      }

  pub fit_spent : IsFit o log spent
  fit_spent = record { same = λ h. absurd (omega (arith, h)); idle = λ z. (refl, refl); seen = (log, refl); heard = ([], refl); rises = tt; below = λ p h. absurd (omega (arith, h)); knows = λ h. absurd (omega (arith, h)) }
