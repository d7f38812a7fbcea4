-- What a run works on. Source: Sui Lutris (execution of certificates).
use Rattle.std.specs.Prelude.{◌≡◌, Bool, false, not, ◌&&◌, List, [], map, Option, None}
use Rattle.std.specs.List.{list_all}
use Rattle.digest_core.specs.declared.Digest.{Digest}
use Rattle.effects_core.specs.declared.effects.Effects.{Effects}
use Rattle.protocol_spec.specs.declared.answers.Held.{Held}
use Rattle.chain_types.specs.Equal.{digest_eq}
use Rattle.chain_types.specs.Digests.{transaction_digest}
use Rattle.protocol_spec.specs.Chain.Words.{repeats, where_true}
use Rattle.protocol_spec.specs.Chain.Shape.{shape_fault}
use Rattle.protocol_spec.specs.Member.Versions.{Execution, is_executed}
use Rattle.protocol_spec.specs.Member.Admission.{Admission}
use Rattle.protocol_spec.specs.declared.answers.Left.{Left}
use Rattle.protocol_spec.specs.Member.Rounds.{Books, is_due, is_origin_done, left_as, may_run, ready}
use Rattle.version_store.specs.Stores.{Stored}

-- what the definition of a run works on, from a store, an admission and the held certificates
abbrev pub books_of : Stored → Admission → List Held → Books
books_of s a held = record { opening = s.opening; held = held; admission = a }

-- the certificate stands under its transaction's digest, and the transaction has a valid shape
abbrev pub IsSound : Held → Type 0
IsSound h = (shape_fault h.cert.tx ≡ None) × (h.digest ≡ transaction_digest h.cert.tx)

-- the digest of a held certificate; `AreApart` says that no transaction is held twice
abbrev pub digest_of_held : Held → Digest
digest_of_held h = h.digest

abbrev pub AreApart : List Held → Type 0
AreApart held = repeats digest_eq (map digest_of_held held) ≡ false

-- ---- one certificate

-- the certificate needs no admission, or its transaction is admitted
abbrev pub is_let : Admission → Held → Bool
is_let a h = may_run (record { opening = []; held = []; admission = a }) h

-- what the certificate's execution gives, if it is ready in this store
abbrev pub ready_in : Stored → Admission → Held → Option Execution
ready_in s a h = ready (books_of s a []) s.executed h

abbrev pub effects_of : Execution → Effects
effects_of x = x.gave.effects

-- the `Left` of a certificate, if it is not executed although all that it waits for is
abbrev pub left_in : Stored → Admission → Held → Option Left
left_in s a h = where_true (is_due (books_of s a []) s.executed h) (left_as (books_of s a []) s.executed h)

-- the first test of `left_in`: it may run and is not executed, although all its origins are
abbrev pub may_be_left : List Execution → Admission → Held → Bool
may_be_left executed a h = not (is_executed executed h.digest) && is_let a h && list_all (is_origin_done executed) h.cert.origins
