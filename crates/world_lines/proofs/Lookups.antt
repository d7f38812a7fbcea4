-- Look-ups in lists, by what their rows stand for.
use Rattle.std.proofs.Common.{◌≡◌, ◌∙◌, ap, refl, ◌+◌, Bool, true, false, cond, not, List, [], ◌∷◌, length, Option, Some, None, option_map, map, nat_lt}
use Rattle.std.specs.Prelude.{position, find}
use Rattle.std.specs.List.{position_or_len}
use Rattle.std.proofs.lemmas.List.{length-map}
use Rattle.protocol_spec.specs.Chain.Words.{first_of, first_some, where_true}

-- searches by another test that says the same
pub find_same : {A : Type 0} → (p q : A → Bool) → ((x : A) → p x ≡ q x) → (xs : List A) → find p xs ≡ find q xs
find_same p q same [] = refl
find_same p q same (x ∷ xs) = ap (λ b. cond b (Some x) (find p xs)) (same x) ∙ ap (λ o. cond (q x) (Some x) o) (find_same p q same xs)

pub find_map : {A B : Type 0} → (f : A → B) (test : B → Bool) (xs : List A) → find test (map f xs) ≡ option_map f (find (λ x. test (f x)) xs)
find_map f test [] = refl
find_map f test (x ∷ xs) = ap (λ o. cond (test (f x)) (Some (f x)) o) (find_map f test xs) ∙ by (test (f x))
  where
    by : (b : Bool) → cond b (Some (f x)) (option_map f (find (λ y. test (f y)) xs)) ≡ option_map f (cond b (Some x) (find (λ y. test (f y)) xs))
    by true = refl
    by false = refl

places_same : {A B : Type 0} → (f : A → B) (p : B → Bool) (q : A → Bool) → ((x : A) → p (f x) ≡ q x) → (xs : List A) → position_or_len p (map f xs) ≡ position_or_len q xs
places_same f p q same [] = refl
places_same f p q same (x ∷ xs) = ap (λ b. cond (not b) (1 + position_or_len p (map f xs)) 0) (same x) ∙ ap (λ n. cond (not (q x)) (1 + n) 0) (places_same f p q same xs)

pub position_map : {A B : Type 0} → (f : A → B) (p : B → Bool) (q : A → Bool) → ((x : A) → p (f x) ≡ q x) → (xs : List A) → position p (map f xs) ≡ position q xs
position_map f p q same xs =
    ap (λ n. cond (nat_lt n (length (map f xs))) (Some n) None) (places_same f p q same xs)
    ∙ ap (λ n. cond (nat_lt (position_or_len q xs) n) (Some (position_or_len q xs)) None) (length-map xs f)

-- what is said of the first that passes a test
pub first_where : {A B : Type 0} → (test : A → Bool) (says : A → B) (xs : List A) → first_of (λ x. where_true (test x) (says x)) xs ≡ option_map says (find test xs)
first_where test says [] = refl
first_where test says (x ∷ xs) = ap (λ o. first_some (where_true (test x) (says x) ∷ o ∷ [])) (first_where test says xs) ∙ by (test x) (find test xs)
  where
    by : (b : Bool) (o : Option _) → first_some (where_true b (says x) ∷ option_map says o ∷ []) ≡ option_map says (cond b (Some x) o)
    by true o = refl
    by false None = refl
    by false (Some y) = refl
