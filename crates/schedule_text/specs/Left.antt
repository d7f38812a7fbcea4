-- The rest of a text while it is cut into parts from the left: none once the last part was cut.
use Rattle.std.specs.Prelude.{◌==◌, ℕ, ◌+◌, List, [], Option, Some, None, length}
use Rattle.std.specs.Borrow.{Bor}
use Rattle.std.specs.List.{slice_split}

-- the parts of the rest, between bytes of this value; none if nothing is left
abbrev pub parts_left : ℕ → Option (Bor (List ℕ)) → List (List ℕ)
parts_left byte None = []
parts_left byte (Some text) = slice_split (λ b. b == byte) text.now

abbrev pub size_left : Option (Bor (List ℕ)) → ℕ
size_left None = 0
size_left (Some text) = length text.now + 1
