-- Statuses apart.
use Rattle.std.proofs.Common.{◌≡◌, ◌⊎◌, inl, inr, ℕ, arith}

-- sets of statuses: of an answer about a world, of a text, of an answer that was written, of a fault, and of a run
-- that broke off
abbrev pub OfWorld : ℕ → Type 0
OfWorld n = (n ≡ 0) ⊎ (n ≡ 5) ⊎ (n ≡ 7) ⊎ (n ≡ 8)

abbrev pub OfText : ℕ → Type 0
OfText n = (n ≡ 0) ⊎ (n ≡ 3) ⊎ (n ≡ 5) ⊎ (n ≡ 6) ⊎ (n ≡ 7) ⊎ (n ≡ 8)

abbrev pub IsSaid : ℕ → Type 0
IsSaid n = (n ≡ 0) ⊎ (n ≡ 8)

abbrev pub IsFault : ℕ → Type 0
IsFault n = (n ≡ 5) ⊎ (n ≡ 7)

abbrev pub IsCut : ℕ → Type 0
IsCut n = (n ≡ 5) ⊎ (n ≡ 6) ⊎ (n ≡ 7)

pub said_or_fault : {A : Type 0} (n : ℕ) → IsSaid n → IsFault n → A
said_or_fault n (inl h) (inl e) = absurd (omega (arith, h, e))
said_or_fault n (inl h) (inr e) = absurd (omega (arith, h, e))
said_or_fault n (inr h) (inl e) = absurd (omega (arith, h, e))
said_or_fault n (inr h) (inr e) = absurd (omega (arith, h, e))

pub world_not_three : {A : Type 0} (n : ℕ) → OfWorld n → n ≡ 3 → A
world_not_three n (inl h) e = absurd (omega (arith, h, e))
world_not_three n (inr (inl h)) e = absurd (omega (arith, h, e))
world_not_three n (inr (inr (inl h))) e = absurd (omega (arith, h, e))
world_not_three n (inr (inr (inr h))) e = absurd (omega (arith, h, e))

pub world_not_six : {A : Type 0} (n : ℕ) → OfWorld n → n ≡ 6 → A
world_not_six n (inl h) e = absurd (omega (arith, h, e))
world_not_six n (inr (inl h)) e = absurd (omega (arith, h, e))
world_not_six n (inr (inr (inl h))) e = absurd (omega (arith, h, e))
world_not_six n (inr (inr (inr h))) e = absurd (omega (arith, h, e))

pub world_cut : (n : ℕ) → OfWorld n → IsCut n → IsFault n
world_cut n known (inl e) = inl e
world_cut n known (inr (inl e)) = world_not_six n known e
world_cut n known (inr (inr e)) = inr e

pub world_text : (n : ℕ) → OfWorld n → OfText n
world_text n (inl h) = inl h
world_text n (inr (inl h)) = inr (inr (inl h))
world_text n (inr (inr (inl h))) = inr (inr (inr (inr (inl h))))
world_text n (inr (inr (inr h))) = inr (inr (inr (inr (inr h))))
