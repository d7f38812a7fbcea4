-- How often a number stands in a list, and among the places of the items that pass.
use Rattle.std.proofs.Common.{◌≡◌, ◌≢◌, ℕ, zero, suc, ◌+◌, ◌<◌, ◌≤◌, Bool, true, false, cond, List, [], ◌∷◌, ◌++◌, length, get_or, take, sym, refl, ap, ◌∙◌, subst, eq-eqb, ne_eqb, arith}
use mathlib.Core.Logic.{dite}
use native.Mathlib.Decide.{ℕ_discrete}
use Rattle.dag_core.specs.Places.{times, places_by}

pub times_here : (x y : ℕ) (ys : List ℕ) → y ≡ x → times x (y ∷ ys) ≡ 1 + times x ys
times_here x y ys e = ap (λ b. cond b 1 0 + times x ys) (eq-eqb y x e)

pub times_else : (x y : ℕ) (ys : List ℕ) → y ≢ x → times x (y ∷ ys) ≡ times x ys
times_else x y ys ne = let z : 0 + times x ys ≡ times x ys = omega arith in ap (λ b. cond b 1 0 + times x ys) (ne_eqb y x ne) ∙ z

pub times-append : (x : ℕ) (xs ys : List ℕ) → times x (xs ++ ys) ≡ times x xs + times x ys
times-append x [] ys = omega arith
times-append x (y ∷ xs) ys = let h = times-append x xs ys in omega (arith, h)

-- the item at a place stands in the list, and once more than in the part before it, or oftener
pub times_at : (xs : List ℕ) (i : ℕ) → i < length xs → times (get_or xs i 0) (take i xs) + 1 ≤ times (get_or xs i 0) xs
times_at [] i h = absurd (omega arith)
times_at (x ∷ xs) zero h = let e = times_here x x xs refl in omega (arith, e)
times_at (x ∷ xs) (suc i) h = let r = times_at xs i (omega arith) in omega (arith, r)

pub times_in : (x : ℕ) (xs : List ℕ) → 0 < times x xs → (i : ℕ) × (i < length xs) × (get_or xs i 0 ≡ x)
times_in x [] h = absurd (omega arith)
times_in x (y ∷ ys) h = dite (ℕ_discrete y x)
    (λ e. (0, omega arith, e))
    (λ ne. let r = times_in x ys (let q = times_else x y ys ne in omega (arith, q)) in (suc r.0, omega (arith, r.1), r.2))

module _ {X : Type 0} where
  pub places-push : (p : X → Bool) (i : ℕ) (xs : List X) (x : X) → places_by p i (xs ++ x ∷ []) ≡ cond (p x) (places_by p i xs ++ (i + length xs) ∷ []) (places_by p i xs)
  places-push p i [] x = let z : i + 0 ≡ i = omega arith in ap (λ k. cond (p x) (k ∷ []) []) (sym z)
  places-push p i (y ∷ ys) x = go (p y) (p x) (places-push p (i + 1) ys x)
    where
      go : (b c : Bool) → places_by p (i + 1) (ys ++ x ∷ []) ≡ cond c (places_by p (i + 1) ys ++ (i + 1 + length ys) ∷ []) (places_by p (i + 1) ys)
          → cond b (i ∷ places_by p (i + 1) (ys ++ x ∷ [])) (places_by p (i + 1) (ys ++ x ∷ []))
          ≡ cond c (cond b (i ∷ places_by p (i + 1) ys) (places_by p (i + 1) ys) ++ (i + suc (length ys)) ∷ []) (cond b (i ∷ places_by p (i + 1) ys) (places_by p (i + 1) ys))
      go true true h = let z : i + 1 + length ys ≡ i + suc (length ys) = omega arith in ap (λ l. i ∷ l) h ∙ ap (λ k. i ∷ (places_by p (i + 1) ys ++ k ∷ [])) z
      go true false h = ap (λ l. i ∷ l) h
      go false true h = let z : i + 1 + length ys ≡ i + suc (length ys) = omega arith in h ∙ ap (λ k. places_by p (i + 1) ys ++ k ∷ []) z
      go false false h = h

  places_low : (p : X → Bool) (i e : ℕ) (xs : List X) → e < i → times e (places_by p i xs) ≡ 0
  places_low p i e [] lt = refl
  places_low p i e (x ∷ xs) lt = go (p x) (places_low p (i + 1) e xs (omega arith))
    where
      go : (b : Bool) → times e (places_by p (i + 1) xs) ≡ 0 → times e (cond b (i ∷ places_by p (i + 1) xs) (places_by p (i + 1) xs)) ≡ 0
      go true h = times_else e i (places_by p (i + 1) xs) (λ q. omega arith) ∙ h
      go false h = h

  -- no place stands there twice
  pub places_once : (p : X → Bool) (i e : ℕ) (xs : List X) → times e (places_by p i xs) ≤ 1
  places_once p i e [] = omega arith
  places_once p i e (x ∷ xs) = go (p x) (places_once p (i + 1) e xs)
    where
      go : (b : Bool) → times e (places_by p (i + 1) xs) ≤ 1 → times e (cond b (i ∷ places_by p (i + 1) xs) (places_by p (i + 1) xs)) ≤ 1
      go true h = dite (ℕ_discrete i e)
          (λ q. let a = times_here e i (places_by p (i + 1) xs) q in let z = places_low p (i + 1) e xs (omega arith) in omega (arith, a, z))
          (λ q. let a = times_else e i (places_by p (i + 1) xs) q in omega (arith, a, h))
      go false h = h

  -- an item that passes has its place there
  places_found_from : (p : X → Bool) (i k : ℕ) (xs : List X) (d : X) → k < length xs → p (get_or xs k d) ≡ true → times (i + k) (places_by p i xs) ≡ 1
  places_found_from p i k [] d lt t = absurd (omega arith)
  places_found_from p i zero (x ∷ xs) d lt t =
      let z = places_low p (i + 1) i xs (omega arith) in
      let q : i + 0 ≡ i = omega arith in
      let a = times_here i i (places_by p (i + 1) xs) refl in
      let r : times i (i ∷ places_by p (i + 1) xs) ≡ 1 = omega (arith, a, z) in
      subst (λ b. times (i + 0) (cond b (i ∷ places_by p (i + 1) xs) (places_by p (i + 1) xs)) ≡ 1) (sym t) (subst (λ n. times n (i ∷ places_by p (i + 1) xs) ≡ 1) (sym q) r)
  places_found_from p i (suc k) (x ∷ xs) d lt t = go (p x) (places_found_from p (i + 1) k xs d (omega arith) t)
    where
      go : (b : Bool) → times (i + 1 + k) (places_by p (i + 1) xs) ≡ 1 → times (i + suc k) (cond b (i ∷ places_by p (i + 1) xs) (places_by p (i + 1) xs)) ≡ 1
      go true h = let z : i + 1 + k ≡ i + suc k = omega arith in times_else (i + suc k) i (places_by p (i + 1) xs) (λ q. omega arith) ∙ subst (λ n. times n (places_by p (i + 1) xs) ≡ 1) z h
      go false h = let z : i + 1 + k ≡ i + suc k = omega arith in subst (λ n. times n (places_by p (i + 1) xs) ≡ 1) z h

  pub places_found : (p : X → Bool) (k : ℕ) (xs : List X) (d : X) → k < length xs → p (get_or xs k d) ≡ true → times k (places_by p 0 xs) ≡ 1
  places_found p k xs d lt t = let z : 0 + k ≡ k = omega arith in subst (λ n. times n (places_by p 0 xs) ≡ 1) z (places_found_from p 0 k xs d lt t)

  -- a place that stands there is that of an item that passes
  places_inside_from : (p : X → Bool) (i k : ℕ) (xs : List X) (d : X) → 0 < times (i + k) (places_by p i xs) → (k < length xs) × (p (get_or xs k d) ≡ true)
  places_inside_from p i k [] d h = absurd (omega arith)
  places_inside_from p i zero (x ∷ xs) d h = (omega arith, go (p x) refl h)
    where
      go : (b : Bool) → p x ≡ b → 0 < times (i + 0) (cond b (i ∷ places_by p (i + 1) xs) (places_by p (i + 1) xs)) → p x ≡ true
      go true e h' = e
      go false e h' = let z = places_low p (i + 1) (i + 0) xs (omega arith) in absurd (omega (arith, z, h'))
  places_inside_from p i (suc k) (x ∷ xs) d h = let r = places_inside_from p (i + 1) k xs d (go (p x) h) in (omega (arith, r.0), r.1)
    where
      go : (b : Bool) → 0 < times (i + suc k) (cond b (i ∷ places_by p (i + 1) xs) (places_by p (i + 1) xs)) → 0 < times (i + 1 + k) (places_by p (i + 1) xs)
      go true h' = let z : i + suc k ≡ i + 1 + k = omega arith in let q = times_else (i + suc k) i (places_by p (i + 1) xs) (λ e. omega arith) in subst (λ n. 0 < times n (places_by p (i + 1) xs)) z (omega (arith, q, h'))
      go false h' = let z : i + suc k ≡ i + 1 + k = omega arith in subst (λ n. 0 < times n (places_by p (i + 1) xs)) z h'

  pub places_inside : (p : X → Bool) (k : ℕ) (xs : List X) (d : X) → 0 < times k (places_by p 0 xs) → (k < length xs) × (p (get_or xs k d) ≡ true)
  places_inside p k xs d h = let z : k ≡ 0 + k = omega arith in places_inside_from p 0 k xs d (subst (λ n. 0 < times n (places_by p 0 xs)) z h)
