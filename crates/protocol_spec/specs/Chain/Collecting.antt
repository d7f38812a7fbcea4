-- Collecting: what the last words of some members give together. A word is a vote, or an acknowledgement. Source: Sui
-- Lutris, for the votes of a quorum that agree; the order of the causes is this profile's own.
use Rattle.std.specs.Prelude.{ℕ, Bool, not, List, [], ◌∷◌, Option, Some, None}
use Rattle.protocol_spec.specs.Chain.Words.{first_of, first_some, where_true}
use Rattle.protocol_spec.specs.Chain.Committee.{weight, total_of, is_quorum}

-- what collecting gives: the first member without a word; the weight and the total stake, if that is not a quorum; the
-- first two members whose words differ; or that all agree
pub data Collected : Type 0 where
  lacks : ℕ → Collected
  short : ℕ → ℕ → Collected
  differ : ℕ → ℕ → Collected
  whole : Collected

abbrev pub lacks_where : {A : Type 0} → ℕ → Option A → Option Collected
lacks_where m None = Some (lacks m)
lacks_where m (Some x) = None

abbrev pub differ_from : {A : Type 0} → (A → A → Bool) → ℕ → Option A → ℕ → Option A → Option Collected
differ_from same a None b y = None
differ_from same a (Some x) b None = None
differ_from same a (Some x) b (Some y) = where_true (not (same x y)) (differ a b)

abbrev pub differs_among : {A : Type 0} → (A → A → Bool) → (ℕ → Option A) → List ℕ → Option Collected
differs_among same reads [] = None
differs_among same reads (a ∷ ms) = first_of (λ b. differ_from same a (reads a) b (reads b)) ms

abbrev pub too_short : List ℕ → List ℕ → Option Collected
too_short stakes ms = where_true (not (is_quorum stakes (weight stakes ms))) (short (weight stakes ms) (total_of stakes))

abbrev pub whole_or : Option Collected → Collected
whole_or None = whole
whole_or (Some c) = c

-- `reads` is the word of each member: the first of the three causes that applies, or `whole`
abbrev pub collected : {A : Type 0} → (A → A → Bool) → List ℕ → (ℕ → Option A) → List ℕ → Collected
collected same stakes reads ms = whole_or (first_some (first_of (λ m. lacks_where m (reads m)) ms ∷ too_short stakes ms ∷ differs_among same reads ms ∷ []))
