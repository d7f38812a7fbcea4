-- Numbers in order.
use Rattle.std.specs.Prelude.{ℕ, Bool, true, ◌&&◌, nat_lt, List, [], ◌∷◌}

-- each is less than the next, so no two are the same
abbrev pub ascends : List ℕ → Bool
ascends [] = true
ascends (m ∷ []) = true
ascends (m ∷ n ∷ ms) = nat_lt m n && ascends (n ∷ ms)
