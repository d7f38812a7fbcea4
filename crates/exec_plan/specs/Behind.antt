-- Lists of places under transactions: the places of held certificates that wait for each.
use Rattle.std.specs.Prelude.{◌≡◌, ◌⊎◌, ℕ, Bool, List, [], unwrap_or}
use Rattle.std.specs.List.{list_any}
use Rattle.std.specs.Map.{lookup}
use Rattle.digest_core.specs.declared.Digest.{Digest}
use Rattle.chain_types.specs.Equal.{digest_eq}
use Rattle.protocol_spec.specs.Chain.Words.{Has}

abbrev pub Lists : Type 0
Lists = List (Digest × List ℕ)

-- the places that are kept under the transaction
abbrev pub listed : Lists → Digest → List ℕ
listed lists tx = unwrap_or (lookup (digest_eq tx) lists) []

-- nothing was taken out of a list
abbrev pub KeepsListed : Lists → Lists → Type 0
KeepsListed old new = (tx : Digest) (place : ℕ) → Has (listed old tx) place → Has (listed new tx) place

abbrev pub is_among : List Digest → Digest → Bool
is_among txs tx = list_any (λ (d : Digest). digest_eq d tx) txs

-- the place is listed under the transaction, which is one of `all` only if it is one of `left`: those still to be
-- freed
pub record StaysListed (lists : Lists) (left all : List Digest) (tx : Digest) (place : ℕ) : Type 0 where
  pub listed : Has (listed lists tx) place
  pub out : is_among all tx ≡ is_among left tx

-- freeing the transactions of `all`, of which `left` are still to come: each place was freed, or is still listed
pub record Frees (old new : Lists) (freed : List ℕ) (left all : List Digest) : Type 0 where
  pub at : (tx : Digest) (place : ℕ) → Has (listed old tx) place → Has freed place ⊎ StaysListed new left all tx place
