-- What a member has built, one checkpoint after the other.
use Rattle.std.proofs.Common.{◌≡◌, ◌<◌, ◌+◌, ◌≤◌, ℕ, zero, suc, List, [], ◌∷◌, ◌++◌, length, take, Some, None, sym, ap, arith, ◌∙◌}
use Rattle.std.specs.Prelude.{slice_get}
use Rattle.std.proofs.lemmas.List.{take_all}
use Rattle.checkpoint_core.specs.declared.checkpoints.Checkpoint.{Checkpoint}
use Rattle.checkpoint_core.specs.Checkpoints.{checkpoint}
use Rattle.protocol_spec.specs.Chain.Words.{Each}
use Rattle.light_check.proofs.Sealing.{all_of_each}
use Rattle.light_check.specs.Chains.{checkpoints}
use Rattle.committee_core.proofs.Agreeing.{clash}

-- ---- a place within a list

pub something_there : {A : Type 0} (xs : List A) (n : ℕ) → n < length xs → None ≡ slice_get xs n → ⊥
something_there [] n low e = omega (arith, low)
something_there (x ∷ xs) zero low e = clash e
something_there (x ∷ xs) (suc n) low e = something_there xs n (omega (arith, low)) e

-- the first n, and the one after them
one_more : {A : Type 0} (xs : List A) (n : ℕ) (x : A) → slice_get xs n ≡ Some x → take n xs ++ x ∷ [] ≡ take (suc n) xs
one_more [] n x e = absurd (clash e)
one_more (y ∷ xs) zero x e = let same : y ≡ x = cc in ap (λ z. z ∷ []) (sym same)
one_more (y ∷ xs) (suc n) x e = ap (λ zs. y ∷ zs) (one_more xs n x e)

pub front_more : {A : Type 0} (xs front : List A) (n : ℕ) (x : A) → front ≡ take n xs → slice_get xs n ≡ Some x → front ++ x ∷ [] ≡ take (n + 1) xs
front_more {A} xs front n x is e = ap (λ (zs : List A). zs ++ x ∷ []) is ∙ (one_more xs n x e ∙ ap (λ (k : ℕ). take k xs) (let k : suc n ≡ n + 1 = omega arith in k))

pub front_whole : {A : Type 0} (xs front : List A) (n : ℕ) → front ≡ take n xs → length xs ≤ n → front ≡ xs
front_whole xs front n is most = is ∙ take_all n xs most

-- ---- what can be encoded

pub short_more : (cs : List Checkpoint) (c : Checkpoint) → Each checkpoint.short cs → checkpoint.short c → Each checkpoint.short (cs ++ c ∷ [])
short_more [] c all one = (one, tt)
short_more (x ∷ cs) c all one = (all.0, short_more cs c all.1 one)

pub short_all : (cs : List Checkpoint) → length cs < 2147483648 → Each checkpoint.short cs → checkpoints.short cs
unfolding checkpoints
short_all cs few all = (few, all_of_each checkpoint.short cs all)
