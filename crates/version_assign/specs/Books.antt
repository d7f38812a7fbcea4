-- The tables of an admission: the definition's admission that they stand for, and what keeps them consistent.
use Rattle.std.specs.Prelude.{◌≡◌, ℕ, ◌+◌, ◌≤◌, ◌<◌, ◌^◌, nat_le, Bool, true, false, ◌||◌, ◌&&◌, not, List, [], ◌∷◌, map, filter_map, length, count_by, Option, Some, None, is_some, option_map, slice_get, if◌then◌else◌}
use Rattle.std.specs.List.{list_any}
use Rattle.std.specs.Map.{lookup}
use Rattle.std.specs.Vec.{vec_capacity, vec_len}
use Rattle.indexmap.specs.IndexMap.{spare}
use Rattle.digest_core.specs.declared.Digest.{Digest}
use Rattle.chain_types.specs.declared.objects.Object.{Object}
use Rattle.chain_types.specs.declared.objects.ObjectId.{ObjectId}
use Rattle.chain_types.specs.declared.objects.Producer.{Producer}
use Rattle.chain_types.specs.declared.objects.Producer.TheVariants as producers
use Rattle.chain_types.specs.Equal.{digest_eq, id_eq}
use Rattle.chain_messages.specs.declared.messages.Certificate.{Certificate}
use Rattle.protocol_spec.specs.declared.answers.Assigned.{Assigned}
use Rattle.protocol_spec.specs.declared.answers.Held.{Held}
use Rattle.protocol_spec.specs.Chain.Words.{Each, first_of, first_some, last_where, repeats}
use Rattle.protocol_spec.specs.Chain.Keys.{objects_of}
use Rattle.protocol_spec.specs.Chain.Shape.{shape_fault}
use Rattle.protocol_spec.specs.Member.Admission.{Admitted, Admission, Standing, beginning_by, cert_of, is_admitted, is_known, is_shared_object, joined_inputs, opening_object, since_mark, standing_after, writes}
use Rattle.version_assign.specs.declared.book.AdmittedCertificate.{AdmittedCertificate}
use Rattle.version_assign.specs.declared.book.AdmissionTables.{AdmissionTables}
use Rattle.version_assign.specs.declared.book.PendingCertificate.{PendingCertificate}
use Rattle.version_assign.specs.Calls.{Admitting}
use Rattle.version_assign.specs.Lines.{LineMap, are_lined, begun, line_at}

-- ---- what the tables stand for

abbrev pub held_in : Option PendingCertificate → Option Held
held_in None = None
held_in (Some r) = Some r.held

-- the certificates that wait, in the order in which they came
abbrev pub pending_in : List (Option PendingCertificate) → List Held
pending_in rows = filter_map held_in rows

abbrev pub row_in : Option (Option PendingCertificate) → Option PendingCertificate
row_in None = None
row_in (Some r) = r

-- the certificate that waits at a place
abbrev pub row_at : List (Option PendingCertificate) → ℕ → Option PendingCertificate
row_at rows place = row_in (slice_get rows place)

abbrev pub placed : List (Option PendingCertificate) → Option ℕ → Option Held
placed rows None = None
placed rows (Some place) = held_in (row_at rows place)

abbrev pub admitted_as : (Digest × AdmittedCertificate) → Admitted
admitted_as e = record { digest = e.0; cert = e.1.cert; version = e.1.version; assigned = e.1.assigned }

abbrev pub object_in : (ObjectId × Object) → Object
object_in e = e.1

abbrev pub admission_of : AdmissionTables → Admission
admission_of b = record { admitted = map admitted_as b.admitted.entries; dropped = b.dropped.items; pending = pending_in b.rows.items; marked = b.marked }

abbrev pub opening_of : AdmissionTables → List Object
opening_of b = map object_in b.opening.entries

abbrev pub shown : AdmissionTables → Admitting
shown b = record { opening = opening_of b; writers = b.writers; admission = admission_of b }

-- ---- how the tables are kept

-- looking up an id in the table is a search of its objects, and they are all shared
pub record IsOpening (entries : List (ObjectId × Object)) : Type 0 where
  pub at : (id : ObjectId) → lookup (id_eq id) entries ≡ opening_object (map object_in entries) id
  pub shared : (id : ObjectId) → is_shared_object (opening_object (map object_in entries) id) ≡ is_some (lookup (id_eq id) entries)

-- the current version of an object after these admissions, none if no certificate has named it: that of its last
-- writer, else the one at which the first certificate that names it says that it begins
abbrev pub stands : List Object → List Admitted → ObjectId → Option Standing
stands opening admitted id =
    first_some
    (option_map standing_after (last_where (writes id) admitted) ∷
    first_of (beginning_by opening id) (map cert_of admitted) ∷ [])

-- each line has the current version of its object and, if there is a limit, the number of its writers since the mark
pub record AreLines (limit : Option ℕ) (opening : List Object) (a : Admission) (lines : LineMap) : Type 0 where
  pub standing : (id : ObjectId) → (line_at lines id).standing ≡ stands opening a.admitted id
  pub writers : (n : ℕ) → limit ≡ Some n → (id : ObjectId) → (line_at lines id).writers ≡ count_by (writes id) (since_mark a)

-- what a certificate's shared inputs are assigned if it is the first to name each of them
abbrev pub begun_of : List Object → Certificate → List Assigned
begun_of opening c = filter_map (begun opening) (joined_inputs c)

-- a row that waits: its certificate has a valid shape and an origin for each object, and its shared inputs have lines
pub record IsRow (opening : List Object) (lines : LineMap) (r : PendingCertificate) : Type 0 where
  pub shaped : shape_fault r.held.cert.tx ≡ None
  pub origins : length r.held.cert.origins ≡ length (objects_of r.held.cert.tx)
  pub begins : r.assigned.items ≡ begun_of opening r.held.cert
  pub lined : are_lined lines r.assigned.items ≡ true

pub record AreRows (opening : List Object) (lines : LineMap) (rows : List (Option PendingCertificate)) : Type 0 where
  pub at : (place : ℕ) (r : PendingCertificate) → row_at rows place ≡ Some r → IsRow opening lines r

-- an admitted certificate: each object that was assigned has a line, and each that it writes was assigned
pub record IsLet (lines : LineMap) (e : Digest × AdmittedCertificate) : Type 0 where
  pub lined : are_lined lines e.1.assigned ≡ true
  pub named : (id : ObjectId) → writes id (admitted_as e) ≡ true → list_any (λ (x : Assigned). id_eq id x.id) e.1.assigned ≡ true

-- rows and digests stand side by side: each row that still waits has the digest at its place
abbrev pub Aligned : List (Option PendingCertificate) → List Digest → Type 0
Aligned [] [] = Unit {0}
Aligned [] (k ∷ ks) = ⊥
Aligned (r ∷ rs) [] = ⊥
Aligned (None ∷ rs) (k ∷ ks) = Aligned rs ks
Aligned (Some r ∷ rs) (k ∷ ks) = (r.held.digest ≡ k) × Aligned rs ks

abbrev pub IsNew : List Admitted → Held → Type 0
IsNew admitted h = is_admitted admitted h.digest ≡ false

-- no certificate waits at a place below this one
pub record IsSkipped (low : ℕ) (rows : List (Option PendingCertificate)) : Type 0 where
  pub none : (place : ℕ) → place < low → row_at rows place ≡ None
  pub within : low ≤ length rows

-- there is room for all that wait
pub record HasRoom (more : ℕ) (b : AdmissionTables) : Type 0 where
  pub admitted : b.waiting + more ≤ spare b.admitted
  pub dropped : vec_len b.dropped + b.waiting + more ≤ vec_capacity b.dropped

pub record IsKept (b : AdmissionTables) : Type 0 where
  pub opening : IsOpening b.opening.entries
  pub lines : AreLines b.writers (opening_of b) (admission_of b) b.lines.entries
  pub small : (n : ℕ) → b.writers ≡ Some n → n < 2 ^ 32
  pub rows : AreRows (opening_of b) b.lines.entries b.rows.items
  pub lets : Each (IsLet b.lines.entries) b.admitted.entries
  pub aligned : Aligned b.rows.items b.known.keys
  pub apart : repeats digest_eq b.known.keys ≡ false
  pub known : (tx : Digest) → list_any (digest_eq tx) b.known.keys ≡ is_known (admission_of b) tx
  pub new : Each (IsNew (map admitted_as b.admitted.entries)) (pending_in b.rows.items)
  pub waiting : b.waiting ≡ length (pending_in b.rows.items)
  pub within : b.marked ≤ length b.admitted.entries
  pub room : HasRoom 0 b
  pub skipped : IsSkipped b.low b.rows.items

-- ---- one certificate is taken

abbrev pub is_of_opening : Producer → Bool
is_of_opening producers.Opening = true
is_of_opening (producers.Tx tx) = false

abbrev pub lacks_one : List (ObjectId × Object) → Assigned → Bool
lacks_one opening x = is_of_opening x.writer && not (is_some (lookup (id_eq x.id) opening))

abbrev pub version_within : Bool → ℕ → Option ℕ
version_within lacks greatest = if lacks || nat_le 4611686018427387903 greatest then None else Some (greatest + 1)
