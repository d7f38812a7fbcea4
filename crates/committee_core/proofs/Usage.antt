-- No command ends with status 2.
use Rattle.std.proofs.Common.{◌≡◌, ◌⊎◌, inl, inr, ℕ, Some, None, arith}

pub clash : {A : Type 0} {x : A} → Some x ≡ None → ⊥
clash e = absurd (cc)

pub replayed : (n : ℕ) → (n ≡ 0) ⊎ (n ≡ 3) ⊎ (n ≡ 4) ⊎ (n ≡ 5) ⊎ (n ≡ 6) ⊎ (n ≡ 7) ⊎ (n ≡ 8) → n ≡ 2 → ⊥
replayed n (inl h) e = omega (arith, h, e)
replayed n (inr (inl h)) e = omega (arith, h, e)
replayed n (inr (inr (inl h))) e = omega (arith, h, e)
replayed n (inr (inr (inr (inl h)))) e = omega (arith, h, e)
replayed n (inr (inr (inr (inr (inl h))))) e = omega (arith, h, e)
replayed n (inr (inr (inr (inr (inr (inl h)))))) e = omega (arith, h, e)
replayed n (inr (inr (inr (inr (inr (inr h)))))) e = omega (arith, h, e)
