-- The members that said End. Source: Sui Lutris.
use Rattle.std.specs.Prelude.{◌≡◌, ℕ, true, false, List, [], ◌∷◌, ◌++◌, length, nat_eq, replicate, if◌then◌else◌}
use Rattle.std.specs.List.{IsDistinct}
use Rattle.quorum_core.specs.Committee.{weight, all_known, is_quorum, is_among}
use Rattle.protocol_spec.specs.Chain.Certificates.{Rules}
use Rattle.protocol_spec.specs.Member.Sequence.{Sequence, counted_as, ends_with_member}
use Rattle.epoch_turn.specs.declared.ends.Counted.{Counted}
use Rattle.epoch_turn.specs.declared.ends.Counted.TheVariants as counted

-- a member counts once
abbrev pub counted_after : List ℕ → ℕ → List ℕ
counted_after members member = if is_among members member then members else members ++ member ∷ []

abbrev pub said_of_weight : List ℕ → ℕ → Counted
said_of_weight stakes w = if is_quorum stakes w then counted.Ended w else counted.Weight w

-- the answer to an End of this member after those of these members
abbrev pub said_of_end : List ℕ → List ℕ → ℕ → Counted
said_of_end stakes members member = if is_among members member then counted.Repeat else said_of_weight stakes (weight stakes (members ++ member ∷ []))

-- 64 stakes: used to say that a member's number is below 64
abbrev pub greatest : List ℕ
greatest = replicate 64 0

-- the count is the number of these members; they are distinct and below 64
pub record IsCount (count : ℕ) (members : List ℕ) : Type 0 where
  pub many : count ≡ length members
  pub once : IsDistinct nat_eq members
  pub known : all_known greatest members ≡ true

-- the answer to an End agrees with the definition's sequence: a repeat changes nothing; else the member is counted,
-- and the epoch ends if those counted are a quorum with it
abbrev pub CountsAs : Rules → Sequence → ℕ → List ℕ → Counted → Type 0
CountsAs r q member members counted.Repeat = (is_among q.counted member ≡ true) × (members ≡ q.counted)
CountsAs r q member members (counted.Weight w) = (ends_with_member r q member ≡ false) × (members ≡ (counted_as false q member).counted) × (w ≡ weight r.stakes members)
CountsAs r q member members (counted.Ended w) = (ends_with_member r q member ≡ true) × (members ≡ (counted_as true q member).counted) × (w ≡ weight r.stakes members)

abbrev pub CountsIn : List ℕ → List ℕ → ℕ → List ℕ → Counted → Type 0
CountsIn stakes old member new said = (r : Rules) (q : Sequence) → r.stakes ≡ stakes → q.counted ≡ old → CountsAs r q member new said
