-- The tables as plain lists.
use Rattle.std.proofs.Common.{◌≡◌, ℕ, false, List, Option, Some, length, map, ap, sym, subst, ◌∙◌, ◌<◌, ◌≤◌, ◌^◌}
use Rattle.std.specs.List.{list_any}
use Rattle.digest_core.specs.declared.Digest.{Digest}
use Rattle.chain_types.specs.declared.objects.Object.{Object}
use Rattle.chain_types.specs.declared.objects.ObjectId.{ObjectId}
use Rattle.chain_types.specs.Equal.{digest_eq}
use Rattle.protocol_spec.specs.Member.Admission.{Admission, is_known}
use Rattle.protocol_spec.specs.Chain.Words.{Each, repeats}
use Rattle.version_assign.specs.declared.book.AdmittedCertificate.{AdmittedCertificate}
use Rattle.version_assign.specs.declared.book.AdmissionTables.{AdmissionTables}
use Rattle.version_assign.specs.declared.book.PendingCertificate.{PendingCertificate}
use Rattle.version_assign.specs.Books.{Aligned, AreLines, AreRows, HasRoom, IsKept, IsLet, IsNew, IsOpening, IsSkipped, admitted_as, object_in, pending_in, shown}
use Rattle.version_assign.specs.Calls.{Admitting}
use Rattle.version_assign.specs.Lines.{LineMap}

pub record Parts : Type 0 where
  pub opening : List (ObjectId × Object)
  pub writers : Option ℕ
  pub lines : LineMap
  pub rows : List (Option PendingCertificate)
  pub admitted : List (Digest × AdmittedCertificate)
  pub dropped : List Digest
  pub known : List Digest
  pub marked : ℕ
  pub waiting : ℕ

abbrev pub parts_of : AdmissionTables → Parts
parts_of b = record {
  opening = b.opening.entries;
  writers = b.writers;
  lines = b.lines.entries;
  rows = b.rows.items;
  admitted = b.admitted.entries;
  dropped = b.dropped.items;
  known = b.known.keys;
  marked = b.marked;
  waiting = b.waiting;
}

abbrev pub admission_in : Parts → Admission
admission_in x = record { admitted = map admitted_as x.admitted; dropped = x.dropped; pending = pending_in x.rows; marked = x.marked }

abbrev pub shown_in : Parts → Admitting
shown_in x = record { opening = map object_in x.opening; writers = x.writers; admission = admission_in x }

pub record AreKept (x : Parts) : Type 0 where
  pub opening : IsOpening x.opening
  pub lines : AreLines x.writers (map object_in x.opening) (admission_in x) x.lines
  pub small : (n : ℕ) → x.writers ≡ Some n → n < 2 ^ 32
  pub rows : AreRows (map object_in x.opening) x.lines x.rows
  pub lets : Each (IsLet x.lines) x.admitted
  pub aligned : Aligned x.rows x.known
  pub apart : repeats digest_eq x.known ≡ false
  pub known : (tx : Digest) → list_any (digest_eq tx) x.known ≡ is_known (admission_in x) tx
  pub new : Each (IsNew (map admitted_as x.admitted)) (pending_in x.rows)
  pub waiting : x.waiting ≡ length (pending_in x.rows)
  pub within : x.marked ≤ length x.admitted

whole : (b : AdmissionTables) → AreKept (parts_of b) → HasRoom 0 b → IsSkipped b.low b.rows.items → IsKept b
whole b kept room skipped = record {
  opening = kept.opening;
  lines = kept.lines;
  small = kept.small;
  rows = kept.rows;
  lets = kept.lets;
  aligned = kept.aligned;
  apart = kept.apart;
  known = kept.known;
  new = kept.new;
  waiting = kept.waiting;
  within = kept.within;
  room = room;
  skipped = skipped;
}

-- the tables of a book are these lists
pub record Has (b : AdmissionTables) (x : Parts) : Type 0 where
  pub opening : b.opening.entries ≡ x.opening
  pub writers : b.writers ≡ x.writers
  pub lines : b.lines.entries ≡ x.lines
  pub rows : b.rows.items ≡ x.rows
  pub admitted : b.admitted.entries ≡ x.admitted
  pub dropped : b.dropped.items ≡ x.dropped
  pub known : b.known.keys ≡ x.known
  pub marked : b.marked ≡ x.marked
  pub waiting : b.waiting ≡ x.waiting

parts_are : (b : AdmissionTables) (x : Parts) → Has b x → parts_of b ≡ x
parts_are b x has =
    ap (λ (v : List (ObjectId × Object)). let y : Parts = record (parts_of b) { opening = v } in y) has.opening
    ∙ ap (λ (v : Option ℕ). let y : Parts = record (parts_of b) { opening = x.opening; writers = v } in y) has.writers
    ∙ ap (λ (v : LineMap). let y : Parts = record (parts_of b) { opening = x.opening; writers = x.writers; lines = v } in y) has.lines
    ∙ ap (λ (v : List (Option PendingCertificate)). let y : Parts = record (parts_of b) { opening = x.opening; writers = x.writers; lines = x.lines; rows = v } in y) has.rows
    ∙ ap (λ (v : List (Digest × AdmittedCertificate)). let y : Parts = record (parts_of b) { opening = x.opening; writers = x.writers; lines = x.lines; rows = x.rows; admitted = v } in y) has.admitted
    ∙ ap (λ (v : List Digest). let y : Parts = record x { dropped = v; known = b.known.keys; marked = b.marked; waiting = b.waiting } in y) has.dropped
    ∙ ap (λ (v : List Digest). let y : Parts = record x { known = v; marked = b.marked; waiting = b.waiting } in y) has.known
    ∙ ap (λ (v : ℕ). let y : Parts = record x { marked = v; waiting = b.waiting } in y) has.marked
    ∙ ap (λ (v : ℕ). let y : Parts = record x { waiting = v } in y) has.waiting

pub kept_as : (b : AdmissionTables) (x : Parts) → Has b x → AreKept x → HasRoom 0 b → (low : ℕ) → b.low ≡ low → IsSkipped low x.rows → IsKept b
kept_as b x has kept room low is skipped =
    whole b (subst AreKept (sym (parts_are b x has)) kept) room
    (subst (λ n. IsSkipped n b.rows.items) (sym is) (subst (IsSkipped low) (sym has.rows) skipped))

pub shown_as : (b : AdmissionTables) (x : Parts) → Has b x → shown b ≡ shown_in x
shown_as b x has = ap shown_in (parts_are b x has)
