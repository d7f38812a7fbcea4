-- As many items pass as there are places of items that pass.
use Rattle.std.proofs.Common.{◌≡◌, ℕ, ◌+◌, Bool, true, false, cond, List, [], ◌∷◌, length, suc, refl, ap, ◌∙◌, arith}
use Rattle.std.specs.List.{count_by}
use Rattle.std.proofs.lemmas.List.Recursion.{is_count_by}
use Rattle.dag_core.specs.Places.{places_by}

module _ {X : Type 0} (p : X → Bool) where
  shifted : (i j : ℕ) (xs : List X) → length (places_by p i xs) ≡ length (places_by p j xs)
  shifted i j [] = refl
  shifted i j (x ∷ xs) = go (p x) (shifted (i + 1) (j + 1) xs)
    where
      go : (b : Bool) → length (places_by p (i + 1) xs) ≡ length (places_by p (j + 1) xs) → length (cond b (i ∷ places_by p (i + 1) xs) (places_by p (i + 1) xs)) ≡ length (cond b (j ∷ places_by p (j + 1) xs) (places_by p (j + 1) xs))
      go true h = ap (λ n. suc n) h
      go false h = h

  pub count_places : (xs : List X) → length (places_by p 0 xs) ≡ count_by p xs
  count_places xs = is_count_by (λ ys. length (places_by p 0 ys)) p refl (λ y ys. go (p y) 0 y ys (shifted 1 0 ys)) xs
    where
      go : (b : Bool) (i : ℕ) (y : X) (ys : List X) → length (places_by p 1 ys) ≡ length (places_by p 0 ys) → length (cond b (0 ∷ places_by p 1 ys) (places_by p 1 ys)) ≡ cond b (1 + length (places_by p 0 ys)) (length (places_by p 0 ys))
      go true i y ys h = let q : suc (length (places_by p 0 ys)) ≡ 1 + length (places_by p 0 ys) = omega arith in ap (λ n. suc n) h ∙ q
      go false i y ys h = h
