-- Values of digits.
use Rattle.std.proofs.Common.{ℕ, ◌≤◌, ◌+◌, ◌*◌, ◌-◌, List, [], ◌∷◌, arith}
use Rattle.schedule_text.specs.Bytes.{value_from}

-- the value of digits is at least that of those before
pub value_from_grows : (n : ℕ) (bs : List ℕ) → n ≤ value_from n bs
unfolding value_from
value_from_grows n [] = omega arith
value_from_grows n (b ∷ bs) = omega (arith, value_from_grows (n * 10 + (b - 48)) bs)
