-- Lists whose rows are found by a key: the place of the first row of each key.
use Rattle.std.specs.Prelude.{◌≡◌, ℕ, Bool, List, ◌∷◌, [], ◌++◌, is_some, position, bytes_eq, if◌then◌else◌}
use Rattle.std.specs.Map.{lookup}
use Rattle.digest_core.specs.declared.Digest.{Digest}

-- two digests have the same bytes
abbrev pub same_digest : Digest → Digest → Bool
same_digest a b = bytes_eq a.0 b.0

-- the rows, and how many more need no memory
pub record Rows (T : Type 0) : Type 0 where
  pub rows : List T
  pub room : ℕ

-- under each key stands the place of the first row that has it
abbrev pub Placed : {K T : Type 0} → (K → K → Bool) → (T → K) → List T → List (K × ℕ) → Type 0
Placed {K} same key rows places = (k : K) → lookup (same k) places ≡ position (λ row. same k (key row)) rows

-- the place goes under the key, unless one is there
abbrev pub with_place : {K : Type 0} → (K → K → Bool) → List (K × ℕ) → K → ℕ → List (K × ℕ)
with_place same places key n = if is_some (lookup (same key) places) then places else places ++ (key, n) ∷ []
