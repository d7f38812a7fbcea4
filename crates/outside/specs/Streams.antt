-- What was read of a source and written to a sink.
use Rattle.std.specs.Prelude.{◌≡◌, ℕ, ◌+◌, ◌≤◌, List, ◌++◌, length, Option}
use Rattle.std.specs.Io.KnownBytes.{Appends, Consumes, IsAtEnd}

-- observable bytes grew by the whole without its `rest`
abbrev pub Owes : Option (List ℕ) → Option (List ℕ) → List ℕ → List ℕ → Type 0
Owes old new rest whole = (front : List ℕ) × (whole ≡ front ++ rest) × Appends old new front

-- observable bytes grew by a prefix of the whole
abbrev pub AppendsFront : Option (List ℕ) → Option (List ℕ) → List ℕ → Type 0
AppendsFront old new whole = (front : List ℕ) × (rest : List ℕ) × (whole ≡ front ++ rest) × Appends old new front

-- the text was read, to the end of the source or to one byte past the limit
pub record ReadsText (limit : ℕ) (old new : Option (List ℕ)) (text : List ℕ) : Type 0 where
  pub read : Consumes old new text
  pub ended : length text ≤ limit → IsAtEnd new
  pub most : length text ≤ limit + 1
