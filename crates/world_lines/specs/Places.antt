-- Lists in which the last row of a key counts: its place is kept under the key.
use Rattle.std.specs.Prelude.{◌≡◌, ℕ, suc, Bool, List, [], ◌∷◌, Option, None, option_map}
use Rattle.std.specs.Map.{lookup}
use Rattle.protocol_spec.specs.Chain.Words.{first_some, where_true}

-- the place of the last row of which the test holds
abbrev pub last_place : {T : Type 0} → (T → Bool) → List T → Option ℕ
last_place test [] = None
last_place test (x ∷ xs) = first_some (option_map suc (last_place test xs) ∷ where_true (test x) 0 ∷ [])

-- under each key stands the place of the last row of this key, and nothing if there is no such row
abbrev pub LastPlaced : {K L T : Type 0} → (K → L → Bool) → (K → T → Bool) → List T → List (L × ℕ) → Type 0
LastPlaced {K} same is_of rows places = (k : K) → lookup (same k) places ≡ last_place (is_of k) rows
