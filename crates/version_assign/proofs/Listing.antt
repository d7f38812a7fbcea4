-- Lists that are collected from a place on.
use Rattle.std.proofs.Common.{◌≡◌, ℕ, zero, suc, List, [], ◌∷◌, ◌++◌, Option, Some, None, length, map, refl, ap, sym, ◌∙◌, ◌+◌, ◌<◌, arith, add-one, append_assoc, drop, slice_get, option_map}

-- the next one, and those after it
pub next_at : {A : Type 0} → (xs : List A) (i : ℕ) (x : A) → slice_get xs i ≡ Some x → drop i xs ≡ x ∷ drop (suc i) xs
next_at [] zero x at = absurd (cc)
next_at [] (suc i) x at = absurd (cc)
next_at (y ∷ ys) zero x at = ap (λ z. z ∷ ys) (same at)
  where
    same : Some y ≡ Some x → y ≡ x
    same f = cc
next_at (y ∷ ys) (suc i) x at = next_at ys i x at

pub one_listed : {A B : Type 0} → (f : A → B) (xs : List A) (i : ℕ) (x : A) (list more all : List B) → slice_get xs i ≡ Some x → more ≡ list ++ f x ∷ [] → list ++ map f (drop i xs) ≡ all → more ++ map f (drop (i + 1) xs) ≡ all
one_listed f xs i x list more all at is same =
    rw add-one
    (ap (λ ys. ys ++ map f (drop (suc i) xs)) is
    ∙ append_assoc list (f x ∷ []) (map f (drop (suc i) xs))
    ∙ ap (λ ys. list ++ map f ys) (sym (next_at xs i x at))
    ∙ same)

-- within the list there is one
pub some_at : {A : Type 0} → (xs : List A) (i : ℕ) → i < length xs → slice_get xs i ≡ None → ⊥
some_at [] i within none = absurd (omega (arith, within))
some_at (x ∷ xs) zero within none = cc
some_at (x ∷ xs) (suc i) within none = some_at xs i (omega arith) none

pub next_listed : {A B : Type 0} → (f : A → B) (xs : List A) (i : ℕ) (y : B) (list more all : List B) → option_map f (slice_get xs i) ≡ Some y → more ≡ list ++ y ∷ [] → list ++ map f (drop i xs) ≡ all → more ++ map f (drop (i + 1) xs) ≡ all
next_listed {A} {B} f xs i y list more all at is same = go (slice_get xs i) refl at
  where
    one : {C : Type 0} → (a b : C) → Some a ≡ Some b → a ≡ b
    one a b e = cc

    go : (o : Option A) → slice_get xs i ≡ o → option_map f o ≡ Some y → more ++ map f (drop (i + 1) xs) ≡ all
    go None e found = absurd (cc)
    go (Some x) e found = one_listed f xs i x list more all e (is ∙ ap (λ z. list ++ z ∷ []) (sym (one (f x) y found))) same
