-- Sums over the views when one of them changes, and how often a number stands in a merged list.
use Rattle.std.proofs.Common.{◌≡◌, ◌≢◌, ℕ, zero, suc, ◌+◌, ◌<◌, ◌≤◌, Bool, true, false, cond, List, [], ◌∷◌, ◌++◌, set, sym, refl, ap, ◌∙◌, eq-eqb, ne_eqb, arith}
use Rattle.std.specs.Prelude.{nat_lt}
use Rattle.std.proofs.lemmas.Bool.Decides.{nat_tests}
use mathlib.Core.Logic.{dite}
use mathlib.Core.Option.{some, some-injective, some-ne-none}
use native.Mathlib.Decide.{ℕ_discrete}
use lib.ListN.{get_elem?}
use Rattle.vote_desk.specs.Counts.{times, total, IsAscending, placed, merged}

module _ {X : Type 0} where
  -- a sum after one item changed
  pub total_set : (f : X → ℕ) (l : List X) (i : ℕ) (v w : X) → get_elem? l i ≡ some v → total f (set l i w) + f v ≡ total f l + f w
  total_set f [] i v w at = absurd (some-ne-none v (sym at))
  total_set f (x ∷ xs) zero v w at = let e : f x ≡ f v = ap f (some-injective x v at) in omega arith
  total_set f (x ∷ xs) (suc i) v w at = let h = total_set f xs i v w at in omega (arith, h)

  -- a sum stays if `f` of the changed item does
  pub total_same : (f : X → ℕ) (l : List X) (i : ℕ) (v w : X) → get_elem? l i ≡ some v → f w ≡ f v → total f (set l i w) ≡ total f l
  total_same f l i v w at e = let h = total_set f l i v w at in omega (arith, h, e)

  pub total_push : (f : X → ℕ) (l : List X) (w : X) → total f (l ++ w ∷ []) ≡ total f l + f w
  total_push f [] w = omega arith
  total_push f (x ∷ xs) w = let h = total_push f xs w in omega (arith, h)

  -- one item counts no more than all
  pub total_one : (f : X → ℕ) (l : List X) (i : ℕ) (v : X) → get_elem? l i ≡ some v → f v ≤ total f l
  total_one f [] i v at = absurd (some-ne-none v (sym at))
  total_one f (x ∷ xs) zero v at = let e : f x ≡ f v = ap f (some-injective x v at) in omega arith
  total_one f (x ∷ xs) (suc i) v at = let h = total_one f xs i v at in omega (arith, h)

  -- if no item counts, the sum is 0
  pub total_none : (f : X → ℕ) (l : List X) → ((i : ℕ) (v : X) → get_elem? l i ≡ some v → f v ≡ 0) → total f l ≡ 0
  total_none f [] none_of = refl
  total_none f (x ∷ xs) none_of = let h = none_of 0 x refl in let r = total_none f xs (λ i v at. none_of (suc i) v at) in omega (arith, h, r)

  without : (s g : X → ℕ) (l : List X) → total s l ≡ 0 → ((i : ℕ) (v : X) → get_elem? l i ≡ some v → s v ≡ 0 → g v ≡ 0) → total g l ≡ 0
  without s g [] z idle = refl
  without s g (x ∷ xs) z idle = let h = idle 0 x refl (omega arith) in let r = without s g xs (omega arith) (λ i v at. idle (suc i) v at) in omega (arith, h, r)

  -- if one item has all of s, and without s there is no g, it has all of g
  pub total_alone : (s g : X → ℕ) (l : List X) (i : ℕ) (v : X) → get_elem? l i ≡ some v → total s l ≡ s v → ((j : ℕ) (u : X) → get_elem? l j ≡ some u → s u ≡ 0 → g u ≡ 0) → total g l ≡ g v
  total_alone s g [] i v at all idle = absurd (some-ne-none v (sym at))
  total_alone s g (x ∷ xs) zero v at all idle =
      let e : s x ≡ s v = ap s (some-injective x v at) in
      let e' : g x ≡ g v = ap g (some-injective x v at) in
      let r = without s g xs (omega (arith, all)) (λ j u at'. idle (suc j) u at') in omega (arith, r)
  total_alone s g (x ∷ xs) (suc i) v at all idle =
      let o = total_one s xs i v at in
      let h = idle 0 x refl (omega (arith, all)) in
      let r = total_alone s g xs i v at (omega (arith, all, o)) (λ j u at'. idle (suc j) u at') in omega (arith, h, r)

  -- a sum over all items, if one takes in another, of which nothing is left
  pub total_joined : (f : X → ℕ) (l : List X) (i : ℕ) (v : X) (j : ℕ) (w both rest : X) → get_elem? l i ≡ some v → get_elem? (set l i both) j ≡ some w → f both ≡ f v + f w → f rest ≡ 0 → total f (set (set l i both) j rest) ≡ total f l
  total_joined f l i v j w both rest at at' sum nought = let a = total_set f l i v both at in let b = total_set f (set l i both) j w rest at' in omega (arith, a, b, sum, nought)

pub times_here : (x y : ℕ) (ys : List ℕ) → y ≡ x → times x (y ∷ ys) ≡ 1 + times x ys
times_here x y ys e = ap (λ b. cond b 1 0 + times x ys) (eq-eqb y x e)

pub times_else : (x y : ℕ) (ys : List ℕ) → y ≢ x → times x (y ∷ ys) ≡ times x ys
times_else x y ys ne = let z : 0 + times x ys ≡ times x ys = omega arith in ap (λ b. cond b 1 0 + times x ys) (ne_eqb y x ne) ∙ z

pub times-append : (x : ℕ) (xs ys : List ℕ) → times x (xs ++ ys) ≡ times x xs + times x ys
times-append x [] ys = omega arith
times-append x (y ∷ xs) ys = let h = times-append x xs ys in omega (arith, h)

times-placed : (x y : ℕ) (ys : List ℕ) → times x (placed y ys) ≡ times x (y ∷ []) + times x ys
times-placed x y [] = omega arith
times-placed x y (z ∷ zs) = go (nat_lt z y) (times-placed x y zs)
  where
    go : (b : Bool) → times x (placed y zs) ≡ times x (y ∷ []) + times x zs → times x (cond b (z ∷ placed y zs) (y ∷ z ∷ zs)) ≡ times x (y ∷ []) + times x (z ∷ zs)
    go true h = omega (arith, h)
    go false h = omega (arith, h)

-- a number stands in a merged list as often as in both
pub times-merged : (x : ℕ) (xs ys : List ℕ) → times x (merged xs ys) ≡ times x xs + times x ys
times-merged x [] ys = omega arith
times-merged x (y ∷ xs) ys = let h = times-merged x xs ys in let p = times-placed x y (merged xs ys) in omega (arith, h, p)

-- a number stands at most once in an ascending list
pub ascending_once : (x : ℕ) (xs : List ℕ) → IsAscending xs → times x xs ≤ 1
ascending_once x [] up = omega arith
ascending_once x (y ∷ ys) up = dite (ℕ_discrete y x)
    (λ e. let t = times_here x y ys e in dite (ℕ_discrete (times x ys) 0) (λ z. omega (arith, t, z)) (λ nz. absurd (let lt = up.0 x (omega arith) in omega (arith, lt, e))))
    (λ ne. let t = times_else x y ys ne in let r = ascending_once x ys up.1 in omega (arith, t, r))

-- a number above all may stand after an ascending list
pub ascending_push : (xs : List ℕ) (n : ℕ) → IsAscending xs → ((y : ℕ) → 0 < times y xs → y < n) → IsAscending (xs ++ n ∷ [])
ascending_push [] n up above = ((λ y h. absurd (omega (arith, h))), tt)
ascending_push (x ∷ xs) n up above = (
  (λ y h. let a = times-append y xs (n ∷ []) in dite (ℕ_discrete (times y xs) 0)
      (λ z. dite (ℕ_discrete n y)
      (λ e. let first = times_here x x xs refl in let l = above x (omega (arith, first)) in omega (arith, l, e))
      (λ ne. absurd (let t = times_else y n [] ne in omega (arith, a, z, t, h))))
      (λ nz. up.0 y (omega arith))),
  ascending_push xs n up.1 (λ y h. above y (omega (arith, h))),
)

ascending_placed : (x : ℕ) (ys : List ℕ) → times x ys ≡ 0 → IsAscending ys → IsAscending (placed x ys)
ascending_placed x [] apart up = ((λ y h. absurd (omega (arith, h))), tt)
ascending_placed x (y ∷ ys) apart up = go (nat_lt y x) refl (ascending_placed x ys (omega (arith, apart)) up.1)
  where
    ne : y ≢ x
    ne e = let t = times_here x y ys e in omega (arith, t, apart)

    go : (b : Bool) → nat_lt y x ≡ b → IsAscending (placed x ys) → IsAscending (cond b (y ∷ placed x ys) (x ∷ y ∷ ys))
    go true is r = let lt : y < x = grind (arith, nat_tests) in (
      (λ z h. let t = times-placed z x ys in dite (ℕ_discrete (times z ys) 0)
          (λ nz. dite (ℕ_discrete x z)
          (λ e. omega (arith, lt, e))
          (λ no. absurd (let a = times_else z x [] no in omega (arith, t, nz, a, h))))
          (λ nz. up.0 z (omega arith))),
      r,
    )
    go false is r = let le : x ≤ y = grind (arith, nat_tests) in let apart_is : y ≢ x = ne in let lt : x < y = omega arith in (
      (λ z h. dite (ℕ_discrete y z)
          (λ e. omega (arith, lt, e))
          (λ no. let a = times_else z y ys no in let b = up.0 z (omega (arith, a, h)) in omega (arith, lt, b))),
      up,
    )

-- two ascending lists with no number in both make an ascending one
pub ascending_merged : (xs ys : List ℕ) → ((x : ℕ) → times x xs + times x ys ≤ 1) → IsAscending xs → IsAscending ys → IsAscending (merged xs ys)
ascending_merged [] ys apart up up' = up'
ascending_merged (x ∷ xs) ys apart up up' =
    let t = times_here x x xs refl in
    let m = times-merged x xs ys in
    let a = apart x in
    ascending_placed x (merged xs ys) (omega (arith, t, m, a)) (ascending_merged xs ys (λ y. let b = apart y in omega (arith, b)) up.1 up')
