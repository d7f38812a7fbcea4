-- One encoding, one value.
use Rattle.std.proofs.Common.{ap}
use Rattle.std.specs.Prelude.{◌≡◌, ℕ, List, [], ◌++◌}
use Rattle.wire_bcs.specs.Codec.{Codec}
use Rattle.wire_bcs.specs.Whole.{one-spelling}

pub apart : {A : Type 0} (c : Codec A) (x y : A) → c.fits x → c.fits y → c.spell x ≡ c.spell y → x ≡ y
apart c x y fits_x fits_y e = (one-spelling c x y [] [] fits_x fits_y (ap (λ (bytes : List ℕ). bytes ++ []) e)).0
