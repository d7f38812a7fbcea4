-- A committee is the list of its members' stakes. Source: Sui Lutris.
use Rattle.std.specs.Prelude.{ℕ, suc, ◌+◌, ◌*◌, Bool, true, ◌&&◌, ◌==◌, nat_lt, List, [], ◌∷◌, length, if◌then◌else◌, Option, Some, None, Result, Ok, Err}
use Rattle.std.specs.List.{list_any}
use Rattle.wire_bcs.specs.Ascending.{ascends}
use Rattle.quorum_core.specs.declared.committee.CommitteeRefusal.{CommitteeRefusal}
use Rattle.quorum_core.specs.declared.committee.CommitteeRefusal.TheVariants as refusal

-- the sum of the stakes of the members that pass the test; the list begins with this member's stake
abbrev pub weight_from : ℕ → List ℕ → (ℕ → Bool) → ℕ
weight_from member [] among = 0
weight_from member (stake ∷ stakes) among = (if among member then stake else 0) + weight_from (suc member) stakes among

-- the weight of a set of members
unfoldable pub weight_of : List ℕ → (ℕ → Bool) → ℕ
weight_of stakes among = weight_from 0 stakes among

-- the stake of all members
unfoldable pub total_of : List ℕ → ℕ
total_of stakes = weight_of stakes (λ _. true)

-- the set of the members in a list
abbrev pub is_among : List ℕ → ℕ → Bool
is_among members member = list_any (λ m. m == member) members

-- the weight of the members in a list
abbrev pub weight : List ℕ → List ℕ → ℕ
weight stakes members = weight_of stakes (is_among members)

-- more than two thirds of the stake
abbrev pub is_quorum : List ℕ → ℕ → Bool
is_quorum stakes w = nat_lt (2 * total_of stakes) (3 * w)

abbrev pub all_known : List ℕ → List ℕ → Bool
all_known stakes [] = true
all_known stakes (m ∷ ms) = nat_lt m (length stakes) && all_known stakes ms

-- the members ascend, are distinct, and are known
abbrev pub is_roll : List ℕ → List ℕ → Bool
is_roll stakes members = ascends members && all_known stakes members

-- ---- which lists are committees: 1 to 64 stakes, none of them zero

-- the place of the first zero, if the list begins with the stake of this member
abbrev pub zero_from : ℕ → List ℕ → Option ℕ
zero_from member [] = None
zero_from member (stake ∷ stakes) = if stake == 0 then Some member else zero_from (suc member) stakes

abbrev pub without_zero : List ℕ → Option ℕ → Result (List ℕ) CommitteeRefusal
without_zero stakes None = Ok stakes
without_zero stakes (Some member) = Err (refusal.ZeroStake member)

-- the committee of these stakes, or the first reason why there is none
unfoldable pub committee_of : List ℕ → Result (List ℕ) CommitteeRefusal
committee_of stakes =
    if length stakes == 0 then Err refusal.NoMembers else
    (if nat_lt 64 (length stakes) then Err refusal.TooManyMembers else without_zero stakes (zero_from 0 stakes))
