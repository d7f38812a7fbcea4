-- What each step of the code does to the tables of a book.
use Rattle.std.specs.Prelude.{◌≡◌, ℕ, ◌≤◌, ◌<◌, ◌^◌, ◌+◌, ◌++◌, slice_set, drop, fold, if◌then◌else◌, length, Bool, true, false, List, [], ◌∷◌, map, Option, Some, None}
use Rattle.std.specs.List.{list_any}
use Rattle.std.specs.Vec.{vec_capacity, vec_len}
use Rattle.indexmap.specs.IndexMap.{insert_entry, spare}
use Rattle.indexmap.specs.IndexSet.{spare as set_spare}
use Rattle.digest_core.specs.declared.Digest.{Digest}
use Rattle.chain_types.specs.declared.objects.Object.{Object}
use Rattle.chain_types.specs.declared.objects.ObjectId.{ObjectId}
use Rattle.chain_types.specs.Equal.{digest_eq, id_eq}
use Rattle.chain_messages.specs.declared.messages.Certificate.{Certificate}
use Rattle.protocol_spec.specs.declared.answers.Assigned.{Assigned}
use Rattle.protocol_spec.specs.declared.answers.Held.{Held}
use Rattle.protocol_spec.specs.Member.Admission.{is_free}
use Rattle.version_assign.specs.declared.book.AdmittedCertificate.{AdmittedCertificate}
use Rattle.version_assign.specs.declared.book.AdmissionTables.{AdmissionTables}
use Rattle.version_assign.specs.declared.book.PendingCertificate.{PendingCertificate}
use Rattle.version_assign.specs.Books.{HasRoom, IsSkipped, lacks_one, row_at, version_within}
use Rattle.version_assign.specs.Calls.{Admitting, is_shared_one}
use Rattle.version_assign.specs.Lines.{LineMap, are_lined, begun_behind, clear_all, filled, greatest_of, has_line, line_at, move_all}

abbrev pub is_free_one : Admitting → Option Held → Bool
is_free_one a None = false
is_free_one a (Some h) = is_free a.writers a.admission h

-- the version at which a certificate would write if it were admitted now; none if it is to be dropped
abbrev pub judged : List (ObjectId × Object) → LineMap → Certificate → List Assigned → Option ℕ
judged opening lines c begun =
    version_within (list_any (lacks_one opening) begun)
    (greatest_of c.tx.gas.version c.tx.inputs (map (filled lines) begun))

-- the row that waited at a place is taken out
pub record TakesOut (old new : AdmissionTables) (place : ℕ) (r : PendingCertificate) : Type 0 where
  pub row : row_at old.rows.items place ≡ Some r
  pub rows : new.rows.items ≡ slice_set old.rows.items place None
  pub waiting : new.waiting + 1 ≡ old.waiting
  pub known : new.known.keys ≡ old.known.keys
  pub admitted : new.admitted ≡ old.admitted
  pub dropped : new.dropped ≡ old.dropped
  pub marked : new.marked ≡ old.marked
  pub low : new.low ≡ old.low
  pub lines : new.lines.entries ≡ old.lines.entries
  pub opening : new.opening.entries ≡ old.opening.entries
  pub writers : new.writers ≡ old.writers

-- `low` goes on over places at which no certificate waits; nothing else changes
pub record Skips (old new : AdmissionTables) : Type 0 where
  pub rows : new.rows ≡ old.rows
  pub waiting : new.waiting ≡ old.waiting
  pub known : new.known ≡ old.known
  pub admitted : new.admitted ≡ old.admitted
  pub dropped : new.dropped ≡ old.dropped
  pub marked : new.marked ≡ old.marked
  pub skipped : IsSkipped new.low new.rows.items
  pub lines : new.lines ≡ old.lines
  pub opening : new.opening ≡ old.opening
  pub writers : new.writers ≡ old.writers

-- a certificate is admitted at this version; its row was taken out before
pub record Admits (old new : AdmissionTables) (h : Held) (assigned : List Assigned) (version : ℕ) : Type 0 where
  pub rows : new.rows.items ≡ old.rows.items
  pub waiting : new.waiting ≡ old.waiting
  pub known : new.known.keys ≡ old.known.keys
  pub admitted : new.admitted.entries ≡ insert_entry digest_eq old.admitted.entries h.digest (record { cert = h.cert; version = version; assigned = assigned })
  pub room : spare old.admitted ≤ spare new.admitted + 1
  pub dropped : new.dropped ≡ old.dropped
  pub marked : new.marked ≡ old.marked
  pub low : new.low ≡ old.low
  pub lines : new.lines.entries ≡ move_all version h.digest old.lines.entries assigned
  pub opening : new.opening.entries ≡ old.opening.entries
  pub writers : new.writers ≡ old.writers

-- a certificate is dropped; its row was taken out before
pub record Drops (old new : AdmissionTables) (h : Held) : Type 0 where
  pub rows : new.rows.items ≡ old.rows.items
  pub waiting : new.waiting ≡ old.waiting
  pub known : new.known.keys ≡ old.known.keys
  pub admitted : new.admitted ≡ old.admitted
  pub dropped : new.dropped.items ≡ old.dropped.items ++ h.digest ∷ []
  pub len : vec_len new.dropped ≡ vec_len old.dropped + 1
  pub room : vec_capacity old.dropped ≤ vec_capacity new.dropped
  pub marked : new.marked ≡ old.marked
  pub low : new.low ≡ old.low
  pub lines : new.lines.entries ≡ old.lines.entries
  pub opening : new.opening.entries ≡ old.opening.entries
  pub writers : new.writers ≡ old.writers

-- a certificate is admitted at the version that `judged` gives, or dropped if it gives none
abbrev pub Gives : AdmissionTables → AdmissionTables → Held → List Assigned → Option ℕ → Type 0
Gives old new h begun None = Drops old new h
Gives old new h begun (Some version) = Admits old new h (map (filled old.lines.entries) begun) version

-- ---- marks

-- the lines with the writers of all that these were assigned set to 0
abbrev pub clear_each : LineMap → List (Digest × AdmittedCertificate) → LineMap
clear_each lines [] = lines
clear_each lines (e ∷ es) = clear_each (clear_all lines e.1.assigned) es

abbrev pub clear_found : LineMap → Option (Digest × AdmittedCertificate) → LineMap
clear_found lines None = lines
clear_found lines (Some e) = clear_all lines e.1.assigned

-- a mark: all that was admitted is before it now, and writers count from 0
pub record Marks (old new : AdmissionTables) : Type 0 where
  pub rows : new.rows ≡ old.rows
  pub waiting : new.waiting ≡ old.waiting
  pub known : new.known ≡ old.known
  pub admitted : new.admitted ≡ old.admitted
  pub dropped : new.dropped ≡ old.dropped
  pub marked : new.marked ≡ length old.admitted.entries
  pub low : new.low ≡ old.low
  pub lines : new.lines.entries ≡ clear_each old.lines.entries (drop old.marked old.admitted.entries)
  pub opening : new.opening ≡ old.opening
  pub writers : new.writers ≡ old.writers

-- ---- entries

abbrev pub digest_in : (Digest × AdmittedCertificate) → Digest
digest_in e = e.0

-- room was made, in the tables and for lines of new objects; nothing that a definition sees changes
pub record MakesRoom (old new : AdmissionTables) : Type 0 where
  pub rows : new.rows.items ≡ old.rows.items
  pub waiting : new.waiting ≡ old.waiting
  pub known : new.known.keys ≡ old.known.keys
  pub admitted : new.admitted.entries ≡ old.admitted.entries
  pub dropped : new.dropped.items ≡ old.dropped.items
  pub marked : new.marked ≡ old.marked
  pub low : new.low ≡ old.low
  pub same : (q : ObjectId) → line_at new.lines.entries q ≡ line_at old.lines.entries q
  pub kept : (q : ObjectId) → has_line old.lines.entries q ≡ true → has_line new.lines.entries q ≡ true
  pub opening : new.opening ≡ old.opening
  pub writers : new.writers ≡ old.writers
  pub spare : spare old.admitted ≤ spare new.admitted
  pub len : vec_len new.dropped ≡ vec_len old.dropped
  pub capacity : vec_capacity old.dropped ≤ vec_capacity new.dropped

-- one more row can be added, and all that wait then can be taken, without more memory
pub record HasRowRoom (b : AdmissionTables) (assigned : List Assigned) : Type 0 where
  pub rows : vec_len b.rows < vec_capacity b.rows
  pub known : 0 < set_spare b.known
  pub waiting : b.waiting + 1 < 2 ^ 64
  pub all : HasRoom 1 b
  pub lined : are_lined b.lines.entries assigned ≡ true

-- the row of a certificate
pub record IsRowOf (opening : List Object) (h : Held) (r : PendingCertificate) : Type 0 where
  pub held : r.held ≡ h
  pub begins : r.assigned.items ≡ begun_behind opening h.cert.tx.inputs h.cert.origins

-- the row was added at the end
pub record AddsRow (old new : AdmissionTables) (r : PendingCertificate) : Type 0 where
  pub rows : new.rows.items ≡ old.rows.items ++ Some r ∷ []
  pub waiting : new.waiting ≡ old.waiting + 1
  pub known : new.known.keys ≡ old.known.keys ++ r.held.digest ∷ []
  pub admitted : new.admitted ≡ old.admitted
  pub dropped : new.dropped ≡ old.dropped
  pub marked : new.marked ≡ old.marked
  pub low : new.low ≡ old.low
  pub lines : new.lines ≡ old.lines
  pub opening : new.opening ≡ old.opening
  pub writers : new.writers ≡ old.writers

-- ---- the opening

abbrev pub with_shared : List (ObjectId × Object) → Object → List (ObjectId × Object)
with_shared entries o = if is_shared_one o then insert_entry id_eq entries o.id o else entries

abbrev pub with_all_shared : List (ObjectId × Object) → List Object → List (ObjectId × Object)
with_all_shared entries objects = fold with_shared entries objects
