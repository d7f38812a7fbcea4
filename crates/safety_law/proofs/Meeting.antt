-- Two sets that outweigh the whole and a third set share a member outside the third.
use Rattle.std.proofs.Common.{inl, inr, refl}
use Rattle.std.proofs.lemmas.Bool.{ltb-true}
use Rattle.std.specs.Prelude.{◌≡◌, ◌⊎◌, ◌<◌, ◌≤◌, ◌+◌, ◌*◌, ℕ, suc, Bool, true, false, List, [], ◌∷◌, length, if◌then◌else◌}
use native.Mathlib.Omega.{arith}
use Rattle.protocol_spec.specs.Chain.Committee.{weight_from, weight_of, total_of, is_quorum}

-- what one member adds to the weight of a set
abbrev part : Bool → ℕ → ℕ
part x stake = if x then stake else 0

module _ (a b f : ℕ → Bool) where
  abbrev Meets : ℕ → ℕ → Type 0
  Meets low high = (m : ℕ) × (low ≤ m) × (m < high) × (a m ≡ true) × (b m ≡ true) × (f m ≡ false)

  abbrev Light : ℕ → List ℕ → Type 0
  Light i stakes = weight_from i stakes a + weight_from i stakes b ≤ weight_from i stakes (λ _. true) + weight_from i stakes f

  -- the member itself, or the rest
  step : (i stake : ℕ) (stakes : List ℕ) (x y z : Bool) → a i ≡ x → b i ≡ y → f i ≡ z
      → Meets (suc i) (suc i + length stakes) ⊎ Light (suc i) stakes
      → Meets i (i + suc (length stakes)) ⊎ ((part x stake + weight_from (suc i) stakes a) + (part y stake + weight_from (suc i) stakes b) ≤ (stake + weight_from (suc i) stakes (λ _. true)) + (part z stake + weight_from (suc i) stakes f))
  step i stake stakes true true false ea eb ef rest = inl (i, omega arith, omega arith, ea, eb, ef)
  step i stake stakes true true true ea eb ef (inl (m, low, high, p, q, r)) = inl (m, omega arith, omega arith, p, q, r)
  step i stake stakes true true true ea eb ef (inr light) = inr (omega arith)
  step i stake stakes true false z ea eb ef (inl (m, low, high, p, q, r)) = inl (m, omega arith, omega arith, p, q, r)
  step i stake stakes true false true ea eb ef (inr light) = inr (omega arith)
  step i stake stakes true false false ea eb ef (inr light) = inr (omega arith)
  step i stake stakes false y z ea eb ef (inl (m, low, high, p, q, r)) = inl (m, omega arith, omega arith, p, q, r)
  step i stake stakes false true true ea eb ef (inr light) = inr (omega arith)
  step i stake stakes false true false ea eb ef (inr light) = inr (omega arith)
  step i stake stakes false false true ea eb ef (inr light) = inr (omega arith)
  step i stake stakes false false false ea eb ef (inr light) = inr (omega arith)

  meets : (i : ℕ) (stakes : List ℕ) → Meets i (i + length stakes) ⊎ Light i stakes
  meets i [] = inr (omega arith)
  meets i (stake ∷ stakes) = step i stake stakes (a i) (b i) (f i) refl refl refl (meets (suc i) stakes)

-- a quorum has more than two thirds, so the second case is none
heavy : (stakes : List ℕ) (a b f : ℕ → Bool) → is_quorum stakes (weight_of stakes a) ≡ true → is_quorum stakes (weight_of stakes b) ≡ true
    → 3 * weight_of stakes f < total_of stakes → weight_of stakes a + weight_of stakes b ≤ total_of stakes + weight_of stakes f → ⊥
heavy stakes a b f qa qb few light =
    let above = ltb-true (2 * total_of stakes) (3 * weight_of stakes a) qa in
    let besides = ltb-true (2 * total_of stakes) (3 * weight_of stakes b) qb in
    omega (arith, above, besides, few, light)

pub two_meet : (stakes : List ℕ) (a b f : ℕ → Bool) → is_quorum stakes (weight_of stakes a) ≡ true → is_quorum stakes (weight_of stakes b) ≡ true
    → 3 * weight_of stakes f < total_of stakes → (m : ℕ) × (m < length stakes) × (a m ≡ true) × (b m ≡ true) × (f m ≡ false)
unfolding weight_of total_of
two_meet stakes a b f qa qb few = found (meets a b f 0 stakes)
  where
    found : Meets a b f 0 (0 + length stakes) ⊎ Light a b f 0 stakes → (m : ℕ) × (m < length stakes) × (a m ≡ true) × (b m ≡ true) × (f m ≡ false)
    found (inl (m, low, high, p, q, r)) = (m, omega arith, p, q, r)
    found (inr light) = absurd (heavy stakes a b f qa qb few light)
