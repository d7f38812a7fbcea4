-- Planning layer by layer: the store is taken as if all that is planned had been executed, and what waits is filed so.
use Rattle.std.specs.Prelude.{◌≡◌, ℕ, Bool, true, false, not, ◌&&◌, List, [], ◌∷◌, ◌++◌, filter, Option, Some, None, slice_get}
use Rattle.std.specs.List.{list_any}
use Rattle.digest_core.specs.declared.Digest.{Digest}
use Rattle.protocol_spec.specs.declared.answers.Held.{Held}
use Rattle.chain_types.specs.Equal.{digest_eq}
use Rattle.protocol_spec.specs.Chain.Words.{Has}
use Rattle.protocol_spec.specs.Member.Versions.{is_executed}
use Rattle.protocol_spec.specs.Member.Admission.{Admission}
use Rattle.version_store.specs.Stores.{Stored}
use Rattle.exec_plan.specs.declared.waiting.DependencyIndex.{DependencyIndex}
use Rattle.exec_plan.specs.Behind.{listed}
use Rattle.exec_plan.specs.Books.{is_let}
use Rattle.exec_plan.specs.Layers.{is_planned}
use Rattle.exec_plan.specs.Makers.{are_made}
use Rattle.exec_plan.specs.Waits.{IsBehind}

-- the certificate joins the next layer, if the planned ones count as executed in the store
abbrev pub joins_now : Stored → Admission → Held → Bool
joins_now s a h = not (is_executed s.executed h.digest) && is_let a h && are_made s.executed a h

-- those of these certificates that join it
abbrev pub joining : Stored → Admission → List Held → List Held
joining s a held = filter (joins_now s a) held

abbrev pub joins_of : Stored → Admission → Option Held → Bool
joins_of s a None = false
joins_of s a (Some h) = joins_now s a h

-- the places of those that join it, among these places
abbrev pub layer_places : Stored → Admission → List Held → List ℕ → List ℕ
layer_places s a held places = filter (λ p. joins_of s a (slice_get held p)) places

-- the list with the transaction of the certificate, if there is one
abbrev pub with_digest : List Digest → Option Held → List Digest
with_digest txs None = txs
with_digest txs (Some h) = txs ++ h.digest ∷ []

-- these transactions are the planned ones
abbrev pub Agrees : List Digest → List Held → Type 0
Agrees txs planned = (tx : Digest) → list_any (digest_eq tx) txs ≡ is_planned planned tx

-- the place of each held certificate of one of these transactions is among those taken
abbrev pub AreTaken : List Held → List Digest → List ℕ → Type 0
AreTaken held txs taken = (place : ℕ) (h : Held) → slice_get held place ≡ Some h → list_any (digest_eq h.digest) txs ≡ true → Has taken place

-- where a held certificate is after a plan: it is executed; or filed until it is admitted; or filed under a
-- transaction that makes what it wants and is neither executed nor planned; or taken out of the lists for the plan
pub data Parked (s : Stored) (a : Admission) (planned : List Held) (taken : List ℕ) (w : DependencyIndex) (place : ℕ) (h : Held) : Type 0 where
  has_run : is_executed s.executed h.digest ≡ true → Parked s a planned taken w place h
  lacks_admission : is_let a h ≡ false → Has (listed w.unadmitted.entries h.digest) place → Parked s a planned taken w place h
  waits_behind : is_let a h ≡ true → (b : IsBehind s.executed a w place h) → is_planned planned b.maker ≡ false → Parked s a planned taken w place h
  was_taken : Has taken place → Parked s a planned taken w place h

-- each held certificate is in one of these cases
pub record AreParked (s : Stored) (a : Admission) (planned : List Held) (taken : List ℕ) (held : List Held) (w : DependencyIndex) : Type 0 where
  pub at : (place : ℕ) (h : Held) → slice_get held place ≡ Some h → Parked s a planned taken w place h
