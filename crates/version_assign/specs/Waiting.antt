-- The wait lists of an admission: which waiting certificates are to be looked at, and under what the others are filed.
-- A certificate is known by its place among the rows.
use Rattle.std.specs.Prelude.{◌≡◌, ◌⊎◌, ◌<◌, ◌≤◌, ◌+◌, ℕ, Bool, true, false, ◌||◌, length, List, [], map, Option, Some, None}
use Rattle.std.specs.List.{list_any}
use Rattle.std.specs.Map.{lookup}
use Rattle.std.specs.Ordering.{nat_cmp}
use Rattle.std.specs.BTreeSet.{BTreeSet, contains}
use Rattle.digest_core.specs.declared.Digest.{Digest}
use Rattle.chain_types.specs.declared.objects.ObjectId.{ObjectId}
use Rattle.chain_types.specs.Equal.{digest_eq}
use Rattle.chain_messages.specs.declared.messages.Certificate.{Certificate}
use Rattle.protocol_spec.specs.Chain.Words.{Has}
use Rattle.protocol_spec.specs.Chain.Tests.{has_id}
use Rattle.protocol_spec.specs.Member.Admission.{has_room, is_admitted, mutable_ids, writes}
use Rattle.version_assign.specs.declared.book.AdmittedCertificate.{AdmittedCertificate}
use Rattle.version_assign.specs.declared.book.AdmissionTables.{AdmissionTables}
use Rattle.version_assign.specs.declared.book.PendingCertificate.{PendingCertificate}
use Rattle.version_assign.specs.declared.waits.PendingIndex.{PendingIndex}
use Rattle.version_assign.specs.Books.{admission_of, admitted_as, row_at}

-- ---- shelves: sets of places under names (transactions, or objects)

abbrev pub Shelf : Type 0
Shelf = List (Digest × BTreeSet ℕ)

abbrev pub is_in : Option (BTreeSet ℕ) → ℕ → Bool
is_in None place = false
is_in (Some set) place = contains nat_cmp set place

-- the place stands under the name
abbrev pub is_under : Shelf → Digest → ℕ → Bool
is_under shelf name place = is_in (lookup (digest_eq name) shelf) place

abbrev pub count_in : Option (BTreeSet ℕ) → ℕ
count_in None = 0
count_in (Some set) = length set.keys

-- how many places stand under the name
abbrev pub count_under : Shelf → Digest → ℕ
count_under shelf name = count_in (lookup (digest_eq name) shelf)

-- what stands under a name stays there
abbrev pub KeepsShelf : Shelf → Shelf → Type 0
KeepsShelf old new = (name : Digest) (place : ℕ) → is_under old name place ≡ true → is_under new name place ≡ true

-- the least place under a name is taken out, if there is one
pub record PopsPlace (old new : Shelf) (name : Digest) (p : ℕ) : Type 0 where
  pub kept : (other : Digest) (q : ℕ) → is_under old other q ≡ true → (is_under new other q ≡ true) ⊎ ((name ≡ other) × (q ≡ p))
  pub least : (q : ℕ) → is_under new name q ≡ true → p ≤ q
  pub fewer : count_under new name + 1 ≡ count_under old name

pub record IsEmptyUnder (old new : Shelf) (name : Digest) : Type 0 where
  pub kept : KeepsShelf old new
  pub none : (q : ℕ) → is_under new name q ≡ false

abbrev pub Pops : Shelf → Shelf → Digest → Option ℕ → Type 0
Pops old new name None = IsEmptyUnder old new name
Pops old new name (Some p) = PopsPlace old new name p

-- ---- which certificates wait, and for what

abbrev pub is_awake : PendingIndex → ℕ → Bool
is_awake w place = contains nat_cmp w.awake place

abbrev pub writes_row : Option PendingCertificate → ObjectId → Bool
writes_row None id = false
writes_row (Some r) id = has_id (mutable_ids r.held.cert) id

-- a certificate waits at the place, and writes the object
abbrev pub writes_at : List (Option PendingCertificate) → ℕ → ObjectId → Bool
writes_at rows place id = writes_row (row_at rows place) id

-- `due` with these objects too
abbrev pub or_one_of : List ObjectId → (ObjectId → Bool) → ObjectId → Bool
or_one_of ids due id = has_id ids id || due id

abbrev pub none_open : ObjectId → Bool
none_open id = false

-- why a place may wait in the queue of an object: the object has as many writers as the limit; or an awake place, no
-- later than this one, writes it; or its queue is still to be opened (`due`)
pub data Turn (rows : List (Option PendingCertificate)) (w : PendingIndex) (room due : ObjectId → Bool) (id : ObjectId) (place : ℕ) : Type 0 where
  is_full : room id ≡ false → Turn rows w room due id place
  is_open : due id ≡ true → Turn rows w room due id place
  has_turn : (p : ℕ) → is_awake w p ≡ true → p ≤ place → writes_at rows p id ≡ true → Turn rows w room due id place

-- where a waiting certificate is filed: among those that may be free (awake), under an origin that is not admitted, or
-- in the queue of an object that it writes, with a reason to be there
pub data Reason (rows : List (Option PendingCertificate)) (w : PendingIndex) (admits : Digest → Bool) (room due : ObjectId → Bool) (place : ℕ) (c : Certificate) : Type 0 where
  may_be_free : is_awake w place ≡ true → Reason rows w admits room due place c
  stands_behind : (tx : Digest) → Has c.origins (Some tx) → admits tx ≡ false → is_under w.behind.entries tx place ≡ true → Reason rows w admits room due place c
  is_queued : (id : ObjectId) → has_id (mutable_ids c) id ≡ true → is_under w.queues.entries id.0 place ≡ true → Turn rows w room due id place → Reason rows w admits room due place c

-- every waiting certificate is filed, if no table was refused memory (`whole`)
pub record IsFiled (rows : List (Option PendingCertificate)) (w : PendingIndex) (admits : Digest → Bool) (room due : ObjectId → Bool) : Type 0 where
  pub at : w.whole ≡ true → (place : ℕ) (r : PendingCertificate) → row_at rows place ≡ Some r → Reason rows w admits room due place r.held.cert

-- the tests of `IsFiled` as a book answers them: whether a transaction is admitted, and whether an object has room
abbrev pub admits_in : AdmissionTables → Digest → Bool
admits_in b tx = is_admitted (admission_of b).admitted tx

abbrev pub room_in : AdmissionTables → ObjectId → Bool
room_in b id = has_room b.writers (admission_of b) id

abbrev pub IsFiledIn : AdmissionTables → PendingIndex → Type 0
IsFiledIn b w = IsFiled b.rows.items w (admits_in b) (room_in b) none_open

-- ---- steps

-- nothing is taken out of a list; places may be added
pub record Grows (old new : PendingIndex) : Type 0 where
  pub whole : new.whole ≡ true → old.whole ≡ true
  pub awake : (p : ℕ) → is_awake old p ≡ true → is_awake new p ≡ true
  pub behind : KeepsShelf old.behind.entries new.behind.entries
  pub queues : KeepsShelf old.queues.entries new.queues.entries

-- all places under a transaction were moved to those that may be free
pub record Frees (old new : PendingIndex) (tx : Digest) : Type 0 where
  pub whole : new.whole ≡ true → old.whole ≡ true
  pub awake : (p : ℕ) → is_awake old p ≡ true → is_awake new p ≡ true
  pub others : (other : Digest) (q : ℕ) → digest_eq tx other ≡ false → is_under old.behind.entries other q ≡ true → is_under new.behind.entries other q ≡ true
  pub freed : new.whole ≡ true → (q : ℕ) → is_under old.behind.entries tx q ≡ true → is_awake new q ≡ true
  pub queues : KeepsShelf old.queues.entries new.queues.entries

-- some place up to q is awake and writes the object
pub record HasNext (rows : List (Option PendingCertificate)) (w : PendingIndex) (id : ObjectId) (q : ℕ) : Type 0 where
  pub place : ℕ
  pub awake : is_awake w place ≡ true
  pub before : place ≤ q
  pub writes : writes_at rows place id ≡ true

pub record TurnsOn (rows : List (Option PendingCertificate)) (old new : PendingIndex) (id : ObjectId) : Type 0 where
  pub whole : new.whole ≡ true → old.whole ≡ true
  pub awake : (p : ℕ) → is_awake old p ≡ true → is_awake new p ≡ true
  pub behind : KeepsShelf old.behind.entries new.behind.entries
  pub queues : new.whole ≡ true → (name : Digest) (q : ℕ) → is_under old.queues.entries name q ≡ true
      → (is_under new.queues.entries name q ≡ true) ⊎ ((id.0 ≡ name) × (writes_at rows q id ≡ true → is_awake new q ≡ true))
  pub next : new.whole ≡ true → (q : ℕ) → is_under new.queues.entries id.0 q ≡ true → HasNext rows new id q

-- loop: only places that no longer wait, or do not write the object, were taken out of its queue
pub record Passes (rows : List (Option PendingCertificate)) (old new : PendingIndex) (id : ObjectId) : Type 0 where
  pub whole : new.whole ≡ true → old.whole ≡ true
  pub awake : (p : ℕ) → is_awake old p ≡ true → is_awake new p ≡ true
  pub behind : KeepsShelf old.behind.entries new.behind.entries
  pub queues : (name : Digest) (q : ℕ) → is_under old.queues.entries name q ≡ true → (is_under new.queues.entries name q ≡ true) ⊎ ((id.0 ≡ name) × (writes_at rows q id ≡ false))

-- opening the queues of some of the objects: if every certificate was filed with the queues of `all` still to be
-- opened, it is filed now with only those of `rest` still to be opened
pub record Opens (rows : List (Option PendingCertificate)) (room : ObjectId → Bool) (old new : PendingIndex) (all rest : List ObjectId) : Type 0 where
  pub at : (admits : Digest → Bool) (due : ObjectId → Bool) → IsFiled rows old admits room (or_one_of all due) → IsFiled rows new admits room (or_one_of rest due)

-- the object is written by one of these admitted transactions
abbrev pub wrote_one : List (Digest × AdmittedCertificate) → ObjectId → Bool
wrote_one entries id = list_any (writes id) (map admitted_as entries)

pub record OpensSince (rows : List (Option PendingCertificate)) (room : ObjectId → Bool) (old new : PendingIndex) (all rest : List (Digest × AdmittedCertificate)) : Type 0 where
  pub at : (admits : Digest → Bool) → IsFiled rows old admits room (wrote_one all) → IsFiled rows new admits room (wrote_one rest)

-- each place in this range is awake, if the tables are whole
pub record AreAwake (from to : ℕ) (w : PendingIndex) : Type 0 where
  pub at : w.whole ≡ true → (q : ℕ) → from ≤ q → q < to → is_awake w q ≡ true

-- the queues of all that this admitted transaction writes were opened, if there is one
abbrev pub OpensFound : List (Option PendingCertificate) → (ObjectId → Bool) → PendingIndex → PendingIndex → Option (Digest × AdmittedCertificate) → Type 0
OpensFound rows room old new None = new ≡ old
OpensFound rows room old new (Some e) = Opens rows room old new (mutable_ids e.1.cert) []

-- the certificate at this place was put aside: under an origin that is not admitted, or in the queue of a full object
pub data Aside (w : PendingIndex) (admits : Digest → Bool) (room : ObjectId → Bool) (place : ℕ) (c : Certificate) : Type 0 where
  aside_behind : (tx : Digest) → Has c.origins (Some tx) → admits tx ≡ false → is_under w.behind.entries tx place ≡ true → Aside w admits room place c
  aside_queued : (id : ObjectId) → has_id (mutable_ids c) id ≡ true → is_under w.queues.entries id.0 place ≡ true → room id ≡ false → Aside w admits room place c

-- the place was taken out of those that may be free; nothing else was
pub record Rests (old new : PendingIndex) (place : ℕ) : Type 0 where
  pub whole : new.whole ≡ true → old.whole ≡ true
  pub awake : (p : ℕ) → is_awake old p ≡ true → (p ≡ place) ⊎ (is_awake new p ≡ true)
  pub behind : KeepsShelf old.behind.entries new.behind.entries
  pub queues : KeepsShelf old.queues.entries new.queues.entries

-- the test of admitted transactions that passes one more
abbrev pub admits_also : (Digest → Bool) → Digest → Digest → Bool
admits_also admits one tx = admits tx || digest_eq one tx
