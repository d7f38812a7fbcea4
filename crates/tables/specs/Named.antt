-- What is known under names, and the first name of each thing.
use Rattle.std.specs.Prelude.{ℕ, Bool, List, [], ◌∷◌, ◌++◌, Option, is_some, bytes_eq, if◌then◌else◌}
use Rattle.std.specs.Map.{lookup}

-- values under names, in the order of naming
abbrev pub Named : Type 0 → Type 0
Named A = List (List ℕ × A)

-- what is known under the name
abbrev pub named : {A : Type 0} → Named A → List ℕ → Option A
named entries name = lookup (bytes_eq name) entries

-- the name is given, unless it was given before
abbrev pub with_name : {A : Type 0} → Named A → List ℕ → A → Named A
with_name entries name x = if is_some (named entries name) then entries else entries ++ (name, x) ∷ []

-- the first name of each key
abbrev pub FirstOf : Type 0 → Type 0
FirstOf K = List (K × List ℕ)

abbrev pub first_of : {K : Type 0} → (K → K → Bool) → FirstOf K → K → Option (List ℕ)
first_of same names key = lookup (same key) names

-- the key is named, unless it has a name
abbrev pub with_first : {K : Type 0} → (K → K → Bool) → FirstOf K → K → List ℕ → FirstOf K
with_first same names key name = if is_some (first_of same names key) then names else names ++ (key, name) ∷ []
