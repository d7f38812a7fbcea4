-- What numbers in order say of each other.
use Rattle.std.proofs.Common.{◌≡◌, ℕ, ◌<◌, Bool, true, false, List, [], ◌∷◌, refl, arith}
use Rattle.std.specs.Prelude.{◌==◌, nat_lt}
use Rattle.std.proofs.lemmas.Bool.{and_parts, eqb-true}
use Rattle.wire_bcs.specs.Ascending.{ascends}

-- the lesser of two is another
pub apart : (a b : ℕ) → a < b → (a == b) ≡ false
apart a b less = go (a == b) refl
  where
    go : (x : Bool) → (a == b) ≡ x → (a == b) ≡ false
    go false e = e
    go true e = let same = eqb-true a b e in absurd (omega arith)

-- a greater number is not equal to a smaller one
pub apart_over : (a b : ℕ) → a < b → (b == a) ≡ false
apart_over a b less = go (b == a) refl
  where
    go : (x : Bool) → (b == a) ≡ x → (b == a) ≡ false
    go false e = e
    go true e = let same = eqb-true b a e in absurd (omega arith)

-- what stands after the first ascends too
pub ascends_after : (m : ℕ) (ms : List ℕ) → ascends (m ∷ ms) ≡ true → ascends ms ≡ true
ascends_after m [] up = refl
ascends_after m (n ∷ ms) up = (and_parts (nat_lt m n) (ascends (n ∷ ms)) up).1
