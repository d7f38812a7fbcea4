-- The values of words, one after another.
use Rattle.std.proofs.Common.{◌≡◌, List, [], ◌∷◌, ◌++◌, Option, Some, None, refl, ap, append_assoc}
use Rattle.schedule_text.specs.Bytes.{with_both}

-- the values of the rest, after those of the prefix
abbrev pub after_front : {A : Type 0} → List A → Option (List A) → Option (List A)
after_front front None = None
after_front front (Some xs) = Some (front ++ xs)

-- one more value at the end of the prefix
pub each_more : {A : Type 0} (front : List A) (x : A) (rest : Option (List A)) → after_front (front ++ x ∷ []) rest ≡ after_front front (with_both (Some x) rest (λ y ys. y ∷ ys))
each_more front x None = refl
each_more front x (Some xs) = ap Some (append_assoc front (x ∷ []) xs)

pub after_none : {A : Type 0} (rest : Option (List A)) → after_front [] rest ≡ rest
after_none None = refl
after_none (Some xs) = refl
