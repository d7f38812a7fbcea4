-- What is among a list is among one of two parts of it.
use Rattle.std.proofs.Common.{◌≡◌, ◌∙◌, ℕ, Bool, true, false, List, refl, sym, ap, take, drop}
use Rattle.std.specs.Prelude.{◌||◌}
use Rattle.std.specs.List.{list_any}
use Rattle.std.proofs.lemmas.List.Folds.{list_any-append}
use Rattle.std.proofs.lemmas.List.{take-append-drop}

or_swap : (a b : Bool) → (a || b) ≡ (b || a)
or_swap true true = refl
or_swap true false = refl
or_swap false true = refl
or_swap false false = refl

pub in_parts : {A : Type 0} (test : A → Bool) (n : ℕ) (xs : List A) → list_any test xs ≡ (list_any test (drop n xs) || list_any test (take n xs))
in_parts test n xs =
    ap (list_any test) (sym (take-append-drop n xs)) ∙ (list_any-append test (take n xs) (drop n xs) ∙ or_swap (list_any test (take n xs)) (list_any test (drop n xs)))

-- it is found after the place
pub found_behind : {A : Type 0} (test : A → Bool) (n : ℕ) (xs behind : List A) → behind ≡ drop n xs → true ≡ list_any test behind → true ≡ list_any test xs
found_behind test n xs behind e found =
    sym (in_parts test n xs ∙ ap (λ b. b || list_any test (take n xs)) (sym (found ∙ ap (list_any test) e)))

-- or not, and then it is as with what is before the place
pub found_before : {A : Type 0} (test : A → Bool) (n : ℕ) (xs before behind : List A) (b : Bool) → behind ≡ drop n xs → before ≡ take n xs
    → false ≡ list_any test behind → b ≡ list_any test before → b ≡ list_any test xs
found_before test n xs before behind b e f missing is =
    is ∙ (ap (list_any test) f ∙ sym (in_parts test n xs ∙ ap (λ c. c || list_any test (take n xs)) (sym (missing ∙ ap (list_any test) e))))
