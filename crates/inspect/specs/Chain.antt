-- The chain of what a member built, under seals of others that built the same. Source: this profile.
use Rattle.std.specs.Prelude.{◌≡◌, ◌<◌, ℕ, List, [], ◌∷◌, ◌++◌, Some, None, codes, decimal, option_and_then, slice_get}
use Rattle.checkpoint_core.specs.declared.checkpoints.Checkpoint.{Checkpoint}
use Rattle.protocol_spec.specs.Member.Member.{Member, built}
use Rattle.light_check.specs.declared.chain.Link.{Link}
use Rattle.light_check.specs.Certified.{Accepting}
use Rattle.light_check.specs.Chains.{chain}
use Rattle.light_check.specs.Making.{AreSealedBy}
use Rattle.inspect.specs.Standing.{States}

-- member `k` is honest and up, and has built this checkpoint as its number `n`: then it seals it
abbrev pub HasBuilt : States → ℕ → ℕ → Checkpoint → Type 0
HasBuilt states k n c = option_and_then (λ (m : Member). slice_get (built m) n) (states k) ≡ Some c

-- member `k` has built the checkpoint at place `n` of this list, if there is one
abbrev pub HasBuiltAt : States → List Checkpoint → ℕ → ℕ → Type 0
HasBuiltAt states checkpoints k n = (c : Checkpoint) → slice_get checkpoints n ≡ Some c → HasBuilt states k n c

-- there is a checkpoint at place `n`, and member `k` has not built it
pub record LacksAt (states : States) (checkpoints : List Checkpoint) (k n : ℕ) : Type 0 where
  pub checkpoint : Checkpoint
  pub there : slice_get checkpoints n ≡ Some checkpoint
  pub lacks : HasBuilt states k n checkpoint → ⊥

-- member `k` has built all these checkpoints
abbrev pub HasBuiltAll : States → List Checkpoint → ℕ → Type 0
HasBuiltAll states checkpoints k = (n : ℕ) → HasBuiltAt states checkpoints k n

-- the first checkpoint that member `k` has not built stands at place `n`
pub record IsFirstUnbuilt (states : States) (checkpoints : List Checkpoint) (k n : ℕ) : Type 0 where
  pub lacks : LacksAt states checkpoints k n
  pub first : (i : ℕ) → i < n → HasBuiltAt states checkpoints k i

-- the member at this place of the list, if there is one, has built all these checkpoints
abbrev pub SealsAt : States → List Checkpoint → List ℕ → ℕ → Type 0
SealsAt states checkpoints members place = (k : ℕ) → slice_get members place ≡ Some k → HasBuiltAll states checkpoints k

-- each of the members has built all these checkpoints
abbrev pub AllSeal : States → List Checkpoint → List ℕ → Type 0
AllSeal states checkpoints members = (place : ℕ) → SealsAt states checkpoints members place

-- member `k` stands at this place of the list, and the first checkpoint that it has not built is number `n`
pub record IsUnsealedAt (states : States) (checkpoints : List Checkpoint) (members : List ℕ) (place k n : ℕ) : Type 0 where
  pub there : slice_get members place ≡ Some k
  pub lacks : IsFirstUnbuilt states checkpoints k n

-- member `k` is the first of the list that has not built all checkpoints, and the first one missing is number `n`
pub record IsFirstUnsealed (states : States) (checkpoints : List Checkpoint) (members : List ℕ) (k n : ℕ) : Type 0 where
  pub place : ℕ
  pub here : IsUnsealedAt states checkpoints members place k n
  pub first : (i : ℕ) → i < place → SealsAt states checkpoints members i

-- ---- the answers of `chain`

-- `inspect chain M: no honest member that is up`
abbrev pub nobody_text : ℕ → List ℕ
nobody_text m = codes "inspect chain " ++ decimal m ++ codes ": no honest member that is up" ++ 10 ∷ []

-- `inspect chain M: no seal of member K on checkpoint N`
abbrev pub unsealed_text : ℕ → ℕ → ℕ → List ℕ
unsealed_text m k n = codes "inspect chain " ++ decimal m ++ codes ": no seal of member " ++ decimal k ++ codes " on checkpoint " ++ decimal n ++ 10 ∷ []

-- the bytes encode the chain of these checkpoints, each under an accepted seal of each of these members
pub record SpellsSealed (accepts : Accepting) (members : List ℕ) (checkpoints : List Checkpoint) (text : List ℕ) : Type 0 where
  pub links : List Link
  pub sealed : AreSealedBy accepts members checkpoints links
  pub is : text ≡ chain.spell (record { links = links })

-- status 0: member `m` is honest and up, each of `members` has built what it has built, and the bytes are its chain
-- under their seals
pub record IsSealed (accepts : Accepting) (states : States) (m : ℕ) (members : List ℕ) (status : ℕ) (text : List ℕ) : Type 0 where
  pub done : status ≡ 0
  pub state : Member
  pub stands : states m ≡ Some state
  pub all : AllSeal states (built state) members
  pub spells : SpellsSealed accepts members (built state) text

-- status 8: member `m` is not honest, or down, or not there
pub record IsNobody (states : States) (m : ℕ) (status : ℕ) (text : List ℕ) : Type 0 where
  pub refused : status ≡ 8
  pub none : states m ≡ None
  pub is : text ≡ nobody_text m

-- status 8: one of `members` has not built all that member `m` has built
pub record IsUnsealed (states : States) (m : ℕ) (members : List ℕ) (status : ℕ) (text : List ℕ) : Type 0 where
  pub refused : status ≡ 8
  pub state : Member
  pub stands : states m ≡ Some state
  pub member : ℕ
  pub number : ℕ
  pub first : IsFirstUnsealed states (built state) members member number
  pub is : text ≡ unsealed_text m member number

-- what `chain M MEMBERS` says of the members as they stand
pub data SaysChain (accepts : Accepting) (states : States) (m : ℕ) (members : List ℕ) (status : ℕ) (text : List ℕ) : Type 0 where
  sealed : IsSealed accepts states m members status text → SaysChain accepts states m members status text
  nobody : IsNobody states m status text → SaysChain accepts states m members status text
  unsealed : IsUnsealed states m members status text → SaysChain accepts states m members status text
