-- How often a number stands in a list, sums over lists, lists in ascending order, and two of them made one.
use Rattle.std.specs.Prelude.{ℕ, ◌+◌, ◌<◌, ◌==◌, nat_lt, if◌then◌else◌, List, [], ◌∷◌}

-- how often x stands in the list
abbrev pub times : ℕ → List ℕ → ℕ
times x [] = 0
times x (y ∷ ys) = (if y == x then 1 else 0) + times x ys

-- f of each item, added up
abbrev pub total : {X : Type 0} → (X → ℕ) → List X → ℕ
total f [] = 0
total f (x ∷ xs) = f x + total f xs

-- each number is below those after it
abbrev pub IsAscending : List ℕ → Type 0
IsAscending [] = Unit {0}
IsAscending (x ∷ xs) = ((y : ℕ) → 0 < times y xs → x < y) × IsAscending xs

-- the list with x before the first number that is not below it
abbrev pub placed : ℕ → List ℕ → List ℕ
placed x [] = x ∷ []
placed x (y ∷ ys) = if nat_lt y x then y ∷ placed x ys else x ∷ y ∷ ys

-- the numbers of two ascending lists, in ascending order
abbrev pub merged : List ℕ → List ℕ → List ℕ
merged [] ys = ys
merged (x ∷ xs) ys = placed x (merged xs ys)
