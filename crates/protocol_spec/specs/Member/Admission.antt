-- Admission of the certificates of a sequence, with the limit of writers, and the versions that it assigns to
-- shared objects. Source: Sui Lutris (shared versions); the waiting for origins and the limit are this profile's own.
use Rattle.std.specs.Prelude.{ℕ, zero, suc, Bool, true, false, not, ◌&&◌, ◌||◌, nat_lt, nat_le, List, [], ◌∷◌, ◌++◌, map, filter, filter_map, find, zip, drop, length, count_by, Option, Some, None, option_map}
use Rattle.std.specs.List.{list_any, list_all}
use Rattle.digest_core.specs.declared.Digest.{Digest}
use Rattle.chain_types.specs.declared.objects.ObjectId.{ObjectId}
use Rattle.chain_types.specs.declared.objects.Object.{Object}
use Rattle.chain_types.specs.declared.objects.Producer.{Producer}
use Rattle.chain_types.specs.declared.objects.Producer.TheVariants as producers
use Rattle.chain_types.specs.declared.transactions.Input.{Input}
use Rattle.chain_types.specs.declared.transactions.Input.TheVariants as inputs
use Rattle.chain_messages.specs.declared.messages.Certificate.{Certificate}
use Rattle.protocol_spec.specs.declared.answers.Assigned.{Assigned}
use Rattle.protocol_spec.specs.declared.answers.Held.{Held}
use Rattle.chain_types.specs.Equal.{digest_eq, id_eq}
use Rattle.chain_types.specs.Digests.{lamport_version}
use Rattle.protocol_spec.specs.Chain.Words.{first_some, first_of, where_true, last_where}
use Rattle.protocol_spec.specs.Chain.Tests.{has_id}
use Rattle.protocol_spec.specs.Chain.Keys.{objects_of, mutable_id, is_shared, version_limit}

-- an admitted certificate: the version at which it writes, and the versions assigned to its shared inputs
pub record Admitted : Type 0 where
  pub digest : Digest
  pub cert : Certificate
  pub version : ℕ
  pub assigned : List Assigned

-- The certificates of one epoch: admitted ones in order, dropped ones, and those that wait. The first
-- `marked` of the admitted ones were admitted before the last mark.
pub record Admission : Type 0 where
  pub admitted : List Admitted
  pub dropped : List Digest
  pub pending : List Held
  pub marked : ℕ

abbrev pub nothing_admitted : Admission
nothing_admitted = record { admitted = []; dropped = []; pending = []; marked = 0 }

abbrev pub is_admitted : List Admitted → Digest → Bool
is_admitted admitted tx = list_any (λ (a : Admitted). digest_eq a.digest tx) admitted

-- the transaction is in the sequence
abbrev pub is_known : Admission → Digest → Bool
is_known a tx = is_admitted a.admitted tx || list_any (digest_eq tx) a.dropped || list_any (λ (h : Held). digest_eq h.digest tx) a.pending

-- ---- which certificates are free

abbrev pub mutable_ids : Certificate → List ObjectId
mutable_ids c = filter_map mutable_id c.tx.inputs

abbrev pub writes : ObjectId → Admitted → Bool
writes id a = has_id (mutable_ids a.cert) id

-- those admitted since the last mark
abbrev pub since_mark : Admission → List Admitted
since_mark a = drop a.marked a.admitted

-- the object has fewer writers since the last mark than the limit, if there is one
abbrev pub has_room : Option ℕ → Admission → ObjectId → Bool
has_room None a id = true
has_room (Some limit) a id = nat_lt (count_by (writes id) (since_mark a)) limit

abbrev pub is_origin_admitted : Admission → Option Digest → Bool
is_origin_admitted a None = true
is_origin_admitted a (Some tx) = is_admitted a.admitted tx

abbrev pub is_free : Option ℕ → Admission → Held → Bool
is_free writers a h = list_all (is_origin_admitted a) h.cert.origins && list_all (has_room writers a) (mutable_ids h.cert)

-- ---- assigned versions

-- the objects of a certificate's transaction, each with its origin
abbrev pub joined_inputs : Certificate → List (Input × Option Digest)
joined_inputs c = zip (objects_of c.tx) c.origins

-- a version, and who wrote it
abbrev pub Standing : Type 0
Standing = ℕ × Producer

abbrev pub version_in : Option Object → ℕ
version_in None = 0
version_in (Some o) = o.version

abbrev pub opening_object : List Object → ObjectId → Option Object
opening_object opening id = find (λ (o : Object). id_eq o.id id) opening

-- before anybody wrote: as the epoch opened, or as the transaction that shared the object left it
abbrev pub begins : List Object → ObjectId → ℕ → Option Digest → Standing
begins opening id initial None = (version_in (opening_object opening id), producers.Opening)
begins opening id initial (Some origin) = (initial, producers.Tx origin)

-- where the shared object of this id begins, if the input names it
abbrev pub beginning : List Object → ObjectId → (Input × Option Digest) → Option Standing
beginning opening id (inputs.Pure bytes, origin) = None
beginning opening id (inputs.Owned r, origin) = None
beginning opening id (inputs.Immutable r, origin) = None
beginning opening id (inputs.Shared x initial mutable, origin) = where_true (id_eq x id) (begins opening x initial origin)

abbrev pub beginning_by : List Object → ObjectId → Certificate → Option Standing
beginning_by opening id c = first_of (beginning opening id) (joined_inputs c)

abbrev pub standing_after : Admitted → Standing
standing_after a = (a.version, producers.Tx a.digest)

abbrev pub standing_or : Option Standing → Standing
standing_or None = (0, producers.Opening)
standing_or (Some s) = s

abbrev pub cert_of : Admitted → Certificate
cert_of a = a.cert

-- The current version of a shared object for a certificate that comes after these: the last that wrote it,
-- and else what the first says that names it, this certificate included.
unfoldable pub current : List Object → List Admitted → Certificate → ObjectId → Standing
current opening earlier c id =
    standing_or (first_some
    (option_map standing_after (last_where (writes id) earlier) ∷
    first_of (beginning_by opening id) (map cert_of earlier ++ c ∷ []) ∷ []))

abbrev pub assigned_to : Standing → ObjectId → Bool → Assigned
assigned_to s id mutable = record { id = id; version = s.0; writer = s.1; mutable = mutable }

abbrev pub assignment : List Object → List Admitted → Certificate → Input → Option Assigned
assignment opening earlier c (inputs.Pure bytes) = None
assignment opening earlier c (inputs.Owned r) = None
assignment opening earlier c (inputs.Immutable r) = None
assignment opening earlier c (inputs.Shared id initial mutable) = Some (assigned_to (current opening earlier c id) id mutable)

-- the versions of a certificate's shared inputs, in input order
abbrev pub assignments : List Object → List Admitted → Certificate → List Assigned
assignments opening earlier c = filter_map (assignment opening earlier c) (objects_of c.tx)

-- the version of each object, the assigned one of a shared input
abbrev pub taken_version : List Object → List Admitted → Certificate → Input → ℕ
taken_version opening earlier c (inputs.Pure bytes) = 0
taken_version opening earlier c (inputs.Owned r) = r.version
taken_version opening earlier c (inputs.Immutable r) = r.version
taken_version opening earlier c (inputs.Shared id initial mutable) = (current opening earlier c id).0

abbrev pub version_at_admission : List Object → List Admitted → Certificate → ℕ
version_at_admission opening earlier c = lamport_version (map (taken_version opening earlier c) (objects_of c.tx))

-- the certificate as it is admitted after the earlier ones: with its version and its assignments
unfoldable pub admit : List Object → List Admitted → Held → Admitted
admit opening earlier h = record {
  digest = h.digest;
  cert = h.cert;
  version = version_at_admission opening earlier h.cert;
  assigned = assignments opening earlier h.cert;
}

-- ---- taking certificates

abbrev pub is_shared_object : Option Object → Bool
is_shared_object None = false
is_shared_object (Some o) = is_shared o.owner

-- a shared input that no transaction of the epoch shared, and that was not shared as the epoch opened
abbrev pub lacks_shared : List Object → (Input × Option Digest) → Bool
lacks_shared opening (inputs.Pure bytes, origin) = false
lacks_shared opening (inputs.Owned r, origin) = false
lacks_shared opening (inputs.Immutable r, origin) = false
lacks_shared opening (inputs.Shared id initial mutable, None) = not (is_shared_object (opening_object opening id))
lacks_shared opening (inputs.Shared id initial mutable, Some origin) = false

-- dropped: its version would be 2 ^ 62 or more, or a shared input is not there
abbrev pub is_dropped : List Object → List Admitted → Certificate → Bool
is_dropped opening earlier c = nat_le version_limit (version_at_admission opening earlier c) || list_any (lacks_shared opening) (joined_inputs c)

abbrev pub not_of : Held → Held → Bool
not_of h other = not (digest_eq h.digest other.digest)

abbrev pub taken_as : Bool → List Object → Admission → Held → Admission
taken_as true opening a h = record a { dropped = a.dropped ++ h.digest ∷ []; pending = filter (not_of h) a.pending }
taken_as false opening a h = record a { admitted = a.admitted ++ admit opening a.admitted h ∷ []; pending = filter (not_of h) a.pending }

-- a certificate that was pending is admitted or dropped
abbrev pub taken : List Object → Admission → Held → Admission
taken opening a h = taken_as (is_dropped opening a.admitted h.cert) opening a h

abbrev pub taken_next : (Admission → Admission) → List Object → Admission → Option Held → Admission
taken_next next opening a None = a
taken_next next opening a (Some h) = next (taken opening a h)

-- the first free one is taken, again and again, at most so many times
abbrev pub take_free : Option ℕ → List Object → ℕ → Admission → Admission
take_free writers opening zero a = a
take_free writers opening (suc n) a = taken_next (take_free writers opening n) opening a (find (is_free writers a) a.pending)

abbrev pub take_all : Option ℕ → List Object → Admission → Admission
take_all writers opening a = take_free writers opening (length a.pending) a

-- after the entry of a certificate: it is pending, and then all that is free is taken
unfoldable pub entered : Option ℕ → List Object → Admission → Held → Admission
entered writers opening a h = take_all writers opening (record a { pending = a.pending ++ h ∷ [] })

-- after a Commit mark, whose cut was made: writers are counted anew, and all that is free then is taken
unfoldable pub passed_mark : Option ℕ → List Object → Admission → Admission
passed_mark writers opening a = take_all writers opening (record a { marked = length a.admitted })

-- ---- what is asked of an admission

abbrev pub digest_of_admitted : Admitted → Digest
digest_of_admitted a = a.digest

abbrev pub pending_certificate : Admission → Digest → Option Held
pending_certificate a tx = find (λ (h : Held). digest_eq h.digest tx) a.pending

abbrev pub missing_origin : Admission → Option Digest → Option Digest
missing_origin a None = None
missing_origin a (Some tx) = where_true (not (is_admitted a.admitted tx)) tx

abbrev pub waits_on : Admission → Option Held → Option Digest
waits_on a None = None
waits_on a (Some h) = first_of (missing_origin a) h.cert.origins

-- the first origin that is not admitted, of a pending transaction
unfoldable pub pending_on : Admission → Digest → Option Digest
pending_on a tx = waits_on a (pending_certificate a tx)

abbrev pub full_id : Option ℕ → Admission → ObjectId → Option ObjectId
full_id writers a id = where_true (not (has_room writers a id)) id

abbrev pub without_room : Bool → Option ℕ → Admission → Held → Option ObjectId
without_room true writers a h = first_of (full_id writers a) (mutable_ids h.cert)
without_room false writers a h = None

abbrev pub deferred_by : Option ℕ → Admission → Option Held → Option ObjectId
deferred_by writers a None = None
deferred_by writers a (Some h) = without_room (list_all (is_origin_admitted a) h.cert.origins) writers a h

-- the first object with as many writers as the limit, of a pending transaction whose origins are all admitted
unfoldable pub deferred_on : Option ℕ → Admission → Digest → Option ObjectId
deferred_on writers a tx = deferred_by writers a (pending_certificate a tx)

abbrev pub assigned_in : Admitted → List Assigned
assigned_in a = a.assigned

-- the versions assigned to an admitted transaction's shared inputs
unfoldable pub assigned_of : Admission → Digest → Option (List Assigned)
assigned_of a tx = option_map assigned_in (find (λ (x : Admitted). digest_eq x.digest tx) a.admitted)
