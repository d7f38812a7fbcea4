-- Tests of numbers.
use Rattle.std.proofs.Common.{◌≡◌, ℕ, true, false, eq-eqb}
use Rattle.std.specs.Prelude.{◌==◌}
use Rattle.std.proofs.lemmas.Bool.{ne_eqb}

pub same_number : (a b : ℕ) → a ≡ b → (a == b) ≡ true
same_number a b e = eq-eqb a b e

pub other_number : (a b : ℕ) → (a ≡ b → ⊥) → (a == b) ≡ false
other_number a b apart = ne_eqb a b apart
