-- What contracts see of an `Admission`, and what each of its calls makes of that.
use Rattle.std.specs.Prelude.{ℕ, Bool, List, filter, find, map, drop, length, Option, Some, None, option_map}
use Rattle.digest_core.specs.declared.Digest.{Digest}
use Rattle.chain_types.specs.declared.objects.Object.{Object}
use Rattle.chain_types.specs.declared.objects.ObjectId.{ObjectId}
use Rattle.chain_types.specs.Equal.{digest_eq}
use Rattle.protocol_spec.specs.declared.answers.Held.{Held}
use Rattle.protocol_spec.specs.Chain.Keys.{is_shared}
use Rattle.protocol_spec.specs.Member.Admission.{Admitted, Admission, digest_of_admitted, entered, nothing_admitted, passed_mark, since_mark, take_all, taken}

-- the shared objects of the epoch's opening, the limit of writers, and the certificates of its sequence
pub record Admitting : Type 0 where
  pub opening : List Object
  pub writers : Option ℕ
  pub admission : Admission

abbrev pub is_shared_one : Object → Bool
is_shared_one o = is_shared o.owner

abbrev pub id_of : Object → ObjectId
id_of o = o.id

-- the origins that an admitted certificate names
abbrev pub origins_of : Admitted → List (Option Digest)
origins_of a = a.cert.origins

-- the version at which an admitted transaction writes
abbrev pub version_of : Admission → Digest → Option ℕ
version_of a tx = option_map (λ (x : Admitted). x.version) (find (λ (x : Admitted). digest_eq x.digest tx) a.admitted)

-- an epoch before its first entry, over the shared ones of these opening objects
abbrev pub opened : List Object → Option ℕ → Admitting
opened objects writers = record { opening = filter is_shared_one objects; writers = writers; admission = nothing_admitted }

-- after the entry of a certificate, with all that it lets in
abbrev pub with_entry : Admitting → Held → Admitting
with_entry a h = record a { admission = entered a.writers a.opening a.admission h }

-- after a Commit mark, with all that it lets in
abbrev pub with_mark : Admitting → Admitting
with_mark a = record a { admission = passed_mark a.writers a.opening a.admission }

-- after a cut: what was admitted before it no longer counts for the limit of writers
abbrev pub with_cut : Admitting → Admitting
with_cut a = record a { admission = record a.admission { marked = length a.admission.admitted } }

-- the transactions admitted since the last cut or mark, which the next checkpoint has
abbrev pub uncut : Admitting → List Digest
uncut a = map digest_of_admitted (since_mark a.admission)

-- what a call admitted, and what it dropped
abbrev pub admitted_since : Admission → Admission → List Digest
admitted_since old new = map digest_of_admitted (drop (length old.admitted) new.admitted)

abbrev pub dropped_since : Admission → Admission → List Digest
dropped_since old new = drop (length old.dropped) new.dropped

-- ---- steps between

-- a certificate that was pending is admitted or dropped
abbrev pub with_taken : Admitting → Option Held → Admitting
with_taken a None = a
with_taken a (Some h) = record a { admission = taken a.opening a.admission h }

-- all that is free is taken
abbrev pub settled : Admitting → Admitting
settled a = record a { admission = take_all a.writers a.opening a.admission }
