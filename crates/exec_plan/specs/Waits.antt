-- The wait lists of held certificates that are not executed: in which list each of them is filed.
use Rattle.std.specs.Prelude.{◌≡◌, ℕ, true, false, List, [], ◌++◌, map, Some, slice_get}
use Rattle.digest_core.specs.declared.Digest.{Digest}
use Rattle.protocol_spec.specs.declared.answers.Held.{Held}
use Rattle.protocol_spec.specs.Chain.Words.{Has}
use Rattle.protocol_spec.specs.Member.Versions.{Execution, is_executed}
use Rattle.protocol_spec.specs.Member.Admission.{Admission, Admitted, digest_of_admitted}
use Rattle.version_store.specs.Stores.{Stored}
use Rattle.exec_plan.specs.declared.waiting.DependencyIndex.{DependencyIndex}
use Rattle.exec_plan.specs.Behind.{KeepsListed, listed}
use Rattle.exec_plan.specs.Books.{is_let}
use Rattle.exec_plan.specs.Makers.{Makes, are_made}

-- the place is listed under a transaction that is not executed and makes what the certificate wants
pub record IsBehind (executed : List Execution) (a : Admission) (w : DependencyIndex) (place : ℕ) (h : Held) : Type 0 where
  pub maker : Digest
  pub listed : Has (listed w.behind.entries maker) place
  pub makes : Makes maker a h
  pub first : is_executed executed maker ≡ false

-- where a held certificate is filed: nowhere, if it is executed; under its own transaction, until that is admitted;
-- for the next run, if all that makes what it wants is executed; under a transaction that is not executed; or nowhere
-- yet, if its place is loose: still to be filed
pub data Filed (s : Stored) (a : Admission) (loose : List ℕ) (w : DependencyIndex) (place : ℕ) (h : Held) : Type 0 where
  was_run : is_executed s.executed h.digest ≡ true → Filed s a loose w place h
  is_unadmitted : is_let a h ≡ false → Has (listed w.unadmitted.entries h.digest) place → Filed s a loose w place h
  comes_next : is_let a h ≡ true → Has w.next.keys place → are_made s.executed a h ≡ true → Filed s a loose w place h
  is_behind : is_let a h ≡ true → IsBehind s.executed a w place h → Filed s a loose w place h
  is_loose : Has loose place → Filed s a loose w place h

-- each held certificate is filed, or loose
pub record IsFiled (s : Stored) (a : Admission) (loose : List ℕ) (held : List Held) (w : DependencyIndex) : Type 0 where
  pub at : (place : ℕ) (h : Held) → slice_get held place ≡ Some h → Filed s a loose w place h

-- each held certificate is filed
abbrev pub IsWaiting : Stored → Admission → List Held → DependencyIndex → Type 0
IsWaiting s a held w = IsFiled s a [] held w

-- nothing was taken out of a list
pub record KeepsPlaces (old new : DependencyIndex) : Type 0 where
  pub next : (place : ℕ) → Has old.next.keys place → Has new.next.keys place
  pub unadmitted : KeepsListed old.unadmitted.entries new.unadmitted.entries
  pub listed : KeepsListed old.behind.entries new.behind.entries

-- ---- newly admitted transactions

-- between the two admissions these transactions were admitted, in order
pub record Admits (before after : Admission) (txs : List Digest) : Type 0 where
  pub more : List Admitted
  pub admitted : after.admitted ≡ before.admitted ++ more
  pub named : txs ≡ map digest_of_admitted more

-- each held certificate was filed for the admission before these transactions were admitted
pub record StoodBefore (s : Stored) (after : Admission) (txs : List Digest) (held : List Held) (w : DependencyIndex) : Type 0 where
  pub before : Admission
  pub admits : Admits before after txs
  pub waits : IsWaiting s before held w
