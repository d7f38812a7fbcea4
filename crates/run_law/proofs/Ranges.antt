-- Lists over the numbers from one on, and what holds of each of their elements.
use Rattle.std.proofs.Common.{◌≡◌, ℕ, zero, suc, ◌+◌, ◌<◌, ◌≤◌, true, false, List, [], ◌∷◌, ◌++◌, map, refl, ap, ◌∙◌, arith, inl, inr, add-one}
use Rattle.std.proofs.lemmas.Bool.{cases_eq, or_from, or_left, or_right}
use Rattle.std.proofs.lemmas.Slice.Eq.{bytes_eq-Decides}
use Rattle.std.specs.List.{AllByRecursion, flat_map, range_with_len}
use Rattle.std.specs.Str.{bytes_eq}
use Rattle.schedule_make.proofs.Range.{range_with_len-suc}
use Rattle.schedule_text.specs.Known.{is_among}

pub all-append : {X : Type 0} (P : X → Type 0) (xs ys : List X) → AllByRecursion P xs → AllByRecursion P ys → AllByRecursion P (xs ++ ys)
all-append P [] ys h k = k
all-append P (x ∷ xs) ys h k = (h.0, all-append P xs ys h.1 k)

pub all-map : {A B : Type 0} (P : B → Type 0) (f : A → B) (xs : List A) → AllByRecursion (λ a. P (f a)) xs → AllByRecursion P (map f xs)
all-map P f [] h = tt
all-map P f (x ∷ xs) h = (h.0, all-map P f xs h.1)

-- of one element for each number, and of several
pub all-range : {B : Type 0} (P : B → Type 0) (f : ℕ → B) (last : ℕ) → ((k : ℕ) → k < last → P (f k)) → (from n : ℕ) → from + n ≤ last → AllByRecursion P (map f (range_with_len from n))
all-range P f last h from zero few = tt
all-range P f last h from (suc n) few = (h from (omega (arith, few)), all-range P f last h (from + 1) n (omega (arith, few)))

pub all-each : {B : Type 0} (P : B → Type 0) (f : ℕ → List B) (last : ℕ) → ((k : ℕ) → k < last → AllByRecursion P (f k)) → (from n : ℕ) → from + n ≤ last → AllByRecursion P (flat_map f (range_with_len from n))
all-each P f last h from zero few = tt
all-each P f last h from (suc n) few =
    all-append P (f from) (flat_map f (range_with_len (from + 1) n)) (h from (omega (arith, few))) (all-each P f last h (from + 1) n (omega (arith, few)))

-- one number more
pub range-push : (k : ℕ) → range_with_len 0 (k + 1) ≡ range_with_len 0 k ++ k ∷ []
range-push k =
    let e : 0 + k ≡ k = omega arith in
    ap (λ (n : ℕ). range_with_len 0 n) (add-one k) ∙ range_with_len-suc 0 k ∙ ap (λ (x : ℕ). range_with_len 0 k ++ x ∷ []) e

-- ---- names among those of a range

pub not-among : (name : List ℕ) (f : ℕ → List ℕ) (last : ℕ) → ((k : ℕ) → k < last → bytes_eq name (f k) ≡ false) → (from n : ℕ) → from + n ≤ last → is_among (map f (range_with_len from n)) name ≡ false
not-among name f last h from zero few = refl
not-among name f last h from (suc n) few =
    or_from (bytes_eq name (f from)) (is_among (map f (range_with_len (from + 1) n)) name) (h from (omega (arith, few))) (not-among name f last h (from + 1) n (omega (arith, few)))

same-name : (k m : ℕ) (f : ℕ → List ℕ) → k ≡ m → bytes_eq (f k) (f m) ≡ true
same-name k m f e = (bytes_eq-Decides (f k) (f m)).1 (ap f e)

pub among-range : (f : ℕ → List ℕ) (k from n : ℕ) → from ≤ k → k < from + n → is_among (map f (range_with_len from n)) (f k) ≡ true
among-range f k from zero low high = absurd (omega (arith, low, high))
among-range f k from (suc n) low high =
    elim (cases_eq k from) [
      | inl e ↦ or_left (bytes_eq (f k) (f from)) (is_among (map f (range_with_len (from + 1) n)) (f k)) (same-name k from f e)
      | inr other ↦ or_right (bytes_eq (f k) (f from)) (is_among (map f (range_with_len (from + 1) n)) (f k)) (among-range f k (from + 1) n (omega (arith, low, other)) (omega (arith, high)))
    ]
