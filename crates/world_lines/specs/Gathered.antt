-- Lists that are collected one after the other.
use Rattle.std.specs.Prelude.{List, [], ◌∷◌, ◌++◌, fold, Option, Some, None}

-- the list with this item at its end, if there is one
abbrev pub with_some : {A : Type 0} → List A → Option A → List A
with_some xs None = xs
with_some xs (Some x) = xs ++ x ∷ []

-- this list, followed by what `says` gives for each word that it gives something for
abbrev pub all_some : {A W : Type 0} → (W → Option A) → List A → List W → List A
all_some says xs words = fold (λ done word. with_some done (says word)) xs words
