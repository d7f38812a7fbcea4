-- Places in a list: how often a number stands in it, and where the items stand that pass a test.
use Rattle.std.specs.Prelude.{◌≡◌, ℕ, ◌+◌, ◌<◌, ◌==◌, Bool, if◌then◌else◌, List, [], ◌∷◌, length, slice_index_or}

-- how often x stands in the list
abbrev pub times : ℕ → List ℕ → ℕ
times x [] = 0
times x (y ∷ ys) = (if y == x then 1 else 0) + times x ys

-- the places, counted from `first` on, of the items that pass
abbrev pub places_by : {X : Type 0} → (X → Bool) → ℕ → List X → List ℕ
places_by p first [] = []
places_by p first (x ∷ xs) = if p x then first ∷ places_by p (first + 1) xs else places_by p (first + 1) xs

-- as many rows as counted, each with the places of the items whose key is the row's number
pub record IsFiled {X : Type 0} (key : X → ℕ) (items : List X) (count : ℕ) (rows : List (List ℕ)) : Type 0 where
  pub counted : length rows ≡ count
  pub row : (number : ℕ) → number < count → slice_index_or rows number [] ≡ places_by (λ item. key item == number) 0 items
