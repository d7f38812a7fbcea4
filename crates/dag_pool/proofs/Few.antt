-- Numbers below a bound, none of them twice, are not more than the bound.
use Rattle.std.proofs.Common.{◌≡◌, ◌≢◌, ℕ, zero, suc, ◌+◌, ◌≤◌, cond, eqb, List, [], ◌∷◌, length, sym, refl, ap, ◌∙◌, subst, eq-eqb, ne_eqb, arith}
use mathlib.Core.Logic.{dite}
use native.Mathlib.Decide.{ℕ_discrete}
use Rattle.dag_core.specs.Places.{times}
use Rattle.dag_core.proofs.Places.{times_here, times_else}

-- the list without this number
without : ℕ → List ℕ → List ℕ
without x [] = []
without x (y ∷ ys) = cond (eqb y x) (without x ys) (y ∷ without x ys)

without-here : (x y : ℕ) (ys : List ℕ) → y ≡ x → without x (y ∷ ys) ≡ without x ys
unfolding without
without-here x y ys e = ap (λ b. cond b (without x ys) (y ∷ without x ys)) (eq-eqb y x e)

without-else : (x y : ℕ) (ys : List ℕ) → y ≢ x → without x (y ∷ ys) ≡ y ∷ without x ys
unfolding without
without-else x y ys ne = ap (λ b. cond b (without x ys) (y ∷ without x ys)) (ne_eqb y x ne)

length-without : (x : ℕ) (xs : List ℕ) → length (without x xs) + times x xs ≡ length xs
unfolding without
length-without x [] = refl
length-without x (y ∷ ys) = let h = length-without x ys in dite (ℕ_discrete y x)
    (λ e. let a = times_here x y ys e in let b = ap length (without-here x y ys e) in omega (arith, h, a, b))
    (λ ne. let a = times_else x y ys ne in let b = ap length (without-else x y ys ne) in omega (arith, h, a, b))

times-without : (x z : ℕ) (xs : List ℕ) → z ≢ x → times z (without x xs) ≡ times z xs
unfolding without
times-without x z [] ne = refl
times-without x z (y ∷ ys) ne = let h = times-without x z ys ne in dite (ℕ_discrete y x)
    (λ e. ap (times z) (without-here x y ys e) ∙ (h ∙ sym (times_else z y ys (λ q. ne (sym q ∙ e)))))
    (λ no. ap (times z) (without-else x y ys no) ∙ ap (λ k. cond (eqb y z) 1 0 + k) h)

times-without_none : (x : ℕ) (xs : List ℕ) → times x (without x xs) ≡ 0
unfolding without
times-without_none x [] = refl
times-without_none x (y ∷ ys) = let h = times-without_none x ys in dite (ℕ_discrete y x)
    (λ e. ap (times x) (without-here x y ys e) ∙ h)
    (λ no. ap (times x) (without-else x y ys no) ∙ (times_else x y (without x ys) no ∙ h))

pub few : (n : ℕ) (xs : List ℕ) → ((x : ℕ) → times x xs ≤ 1) → ((x : ℕ) → n ≤ x → times x xs ≡ 0) → length xs ≤ n
few zero [] once inside = omega arith
few zero (x ∷ xs) once inside = let h = times_here x x xs refl in let z = inside x (omega arith) in absurd (omega (arith, h, z))
few (suc n) xs once inside =
    let a = length-without n xs in
    let o = once n in
    let r = few n (without n xs)
    (λ x. dite (ℕ_discrete x n) (λ e. let z = subst (λ k. times k (without n xs) ≡ 0) (sym e) (times-without_none n xs) in omega (arith, z)) (λ ne. let z = times-without n x xs ne in let p = once x in omega (arith, z, p)))
    (λ x le. dite (ℕ_discrete x n) (λ e. subst (λ k. times k (without n xs) ≡ 0) (sym e) (times-without_none n xs)) (λ ne. times-without n x xs ne ∙ inside x (omega arith))) in
    omega (arith, a, o, r)
