-- One more row: what the tables show then, and that they are kept.
use Rattle.std.proofs.Common.{◌≡◌, ℕ, zero, suc, Bool, true, false, ◌||◌, List, [], ◌∷◌, ◌++◌, Option, Some, None, length, map, refl, ap, sym, subst, ◌∙◌, inl, inr, ◌+◌, ◌≤◌, arith, length-append}
use Rattle.std.specs.Prelude.{◌⊎◌, drop}
use Rattle.std.specs.List.{list_any}
use Rattle.std.specs.Vec.{vec_capacity, vec_len}
use Rattle.indexmap.specs.IndexMap.{spare}
use Rattle.std.proofs.lemmas.List.{drop-map, length-map}
use Rattle.std.proofs.lemmas.List.Elements.{filter_map-append}
use Rattle.std.proofs.lemmas.List.Folds.{list_any-append}
use Rattle.std.proofs.lemmas.Simd.{map-map}
use Rattle.digest_core.specs.declared.Digest.{Digest}
use Rattle.chain_types.specs.Equal.{digest_eq}
use Rattle.protocol_spec.specs.declared.answers.Held.{Held}
use Rattle.protocol_spec.proofs.Equality.{still_apart, digest_turned}
use Rattle.protocol_spec.proofs.ListLemmas.{each_push}
use Rattle.protocol_spec.proofs.Truth.{or_false_left}
use Rattle.protocol_spec.specs.Chain.Words.{Each}
use Rattle.protocol_spec.specs.Chain.Keys.{objects_of}
use Rattle.protocol_spec.specs.Chain.Shape.{shape_fault}
use Rattle.protocol_spec.specs.Member.Admission.{Admission, digest_of_admitted, entered, is_admitted, is_known, passed_mark, take_all}
use Rattle.version_assign.specs.declared.book.AdmittedCertificate.{AdmittedCertificate}
use Rattle.version_assign.specs.declared.book.AdmissionTables.{AdmissionTables}
use Rattle.version_assign.specs.declared.book.PendingCertificate.{PendingCertificate}
use Rattle.version_assign.specs.Books.{Aligned, HasRoom, IsKept, IsNew, IsRow, admission_of, admitted_as, opening_of, pending_in, row_at, shown}
use Rattle.version_assign.specs.Calls.{Admitting, admitted_since, settled, with_cut, with_entry, with_mark}
use Rattle.version_assign.specs.Lines.{begun_behind}
use Rattle.version_assign.specs.Steps.{AddsRow, HasRowRoom, MakesRoom, digest_in}
use Rattle.version_assign.proofs.Beginning.{begun_is}
use Rattle.version_assign.proofs.Lining.{KeepsLines, lined_more}
use Rattle.version_assign.proofs.Parts.{AreKept, Has, Parts, kept_as, parts_of, shown_as}
use Rattle.version_assign.proofs.Rows.{of_tx, skipped_push}
use Rattle.version_assign.proofs.Settling.{few_admitted, few_dropped}
use Rattle.version_assign.proofs.Taking.{lets_more}

-- ---- room is made

module _ (old new : AdmissionTables) (kept : IsKept old) (m : MakesRoom old new) where
  abbrev roomy : Parts
  roomy = record (parts_of old) { lines = new.lines.entries }

  has_roomy : Has new roomy
  has_roomy = record {
    opening = ap (λ x. x.entries) m.opening;
    writers = m.writers;
    lines = refl;
    rows = m.rows;
    admitted = m.admitted;
    dropped = m.dropped;
    known = m.known;
    marked = m.marked;
    waiting = m.waiting;
  }

  keeps : KeepsLines old.lines.entries new.lines.entries
  keeps = record { at = m.kept }

  roomy_kept : AreKept roomy
  roomy_kept = record {
    opening = kept.opening;
    lines = record {
      standing = λ id. ap (λ l. l.standing) (m.same id) ∙ kept.lines.standing id;
      writers = λ n limit id. ap (λ l. l.writers) (m.same id) ∙ kept.lines.writers n limit id;
    };
    small = kept.small;
    rows = record {
      at = λ q x here.
          let w : IsRow (opening_of old) old.lines.entries x = kept.rows.at q x here in
          record { shaped = w.shaped; origins = w.origins; begins = w.begins; lined = lined_more old.lines.entries new.lines.entries x.assigned.items keeps w.lined };
    };
    lets = lets_more old.lines.entries new.lines.entries keeps old.admitted.entries kept.lets;
    aligned = kept.aligned;
    apart = kept.apart;
    known = kept.known;
    new = kept.new;
    waiting = kept.waiting;
    within = kept.within;
  }

  room_kept : HasRoom 0 new
  room_kept =
      let x : old.waiting + 0 ≤ spare old.admitted = kept.room.admitted in
      let y : vec_len old.dropped + old.waiting + 0 ≤ vec_capacity old.dropped = kept.room.dropped in
      let s : spare old.admitted ≤ spare new.admitted = m.spare in
      let l : vec_len new.dropped ≡ vec_len old.dropped = m.len in
      let k : vec_capacity old.dropped ≤ vec_capacity new.dropped = m.capacity in
      let w : new.waiting ≡ old.waiting = m.waiting in
      record { admitted = omega arith; dropped = omega arith }

  pub room_made : IsKept new × (shown new ≡ shown old)
  room_made = (kept_as new roomy has_roomy roomy_kept room_kept old.low m.low kept.skipped, shown_as new roomy has_roomy)

-- ---- a row is added

row_push : (rows : List (Option PendingCertificate)) (r : PendingCertificate) (q : ℕ) (x : PendingCertificate) → row_at (rows ++ Some r ∷ []) q ≡ Some x → (row_at rows q ≡ Some x) ⊎ (r ≡ x)
row_push [] r zero x at = inr (cc)
row_push [] r (suc q) x at = absurd (cc)
row_push (y ∷ rows) r zero x at = inl at
row_push (y ∷ rows) r (suc q) x at = row_push rows r q x at

aligned_push : (rows : List (Option PendingCertificate)) (keys : List Digest) (r : PendingCertificate) → Aligned rows keys → Aligned (rows ++ Some r ∷ []) (keys ++ r.held.digest ∷ [])
aligned_push [] [] r all = (refl, tt)
aligned_push [] (k ∷ ks) r all = absurd all
aligned_push (y ∷ rows) [] r all = absurd all
aligned_push (None ∷ rows) (k ∷ ks) r all = aligned_push rows ks r all
aligned_push (Some y ∷ rows) (k ∷ ks) r all = (all.0, aligned_push rows ks r all.1)

or_nothing : (b : Bool) → (b || false) ≡ b
or_nothing true = refl
or_nothing false = refl

regrouped : (x y z e : Bool) → ((x || y || z) || e) ≡ (x || y || (z || e))
regrouped true y z e = refl
regrouped false true z e = refl
regrouped false false z e = refl

module _ (old new : AdmissionTables) (r : PendingCertificate) (kept : IsKept old) (m : AddsRow old new r) (room : HasRowRoom old r.assigned.items) (shaped : shape_fault r.held.cert.tx ≡ None)
    (origins : length r.held.cert.origins ≡ length (objects_of r.held.cert.tx)) (begins : r.assigned.items ≡ begun_behind (opening_of old) r.held.cert.tx.inputs r.held.cert.origins)
    (fresh : is_known (admission_of old) r.held.digest ≡ false) where
  abbrev a : Admission
  a = admission_of old

  abbrev added : Parts
  added = record (parts_of old) { rows = old.rows.items ++ Some r ∷ []; known = old.known.keys ++ r.held.digest ∷ []; waiting = old.waiting + 1 }

  has_added : Has new added
  has_added = record {
    opening = ap (λ x. x.entries) m.opening;
    writers = m.writers;
    lines = ap (λ x. x.entries) m.lines;
    rows = m.rows;
    admitted = ap (λ x. x.entries) m.admitted;
    dropped = ap (λ x. x.items) m.dropped;
    known = m.known;
    marked = m.marked;
    waiting = m.waiting;
  }

  pending_more : pending_in (old.rows.items ++ Some r ∷ []) ≡ a.pending ++ r.held ∷ []
  pending_more = filter_map-append _ old.rows.items (Some r ∷ [])

  row_is : IsRow (opening_of old) old.lines.entries r
  row_is = record { shaped = shaped; origins = origins; begins = begins ∙ begun_is (opening_of old) r.held.cert; lined = room.lined }

  added_kept : AreKept added
  added_kept = record {
    opening = kept.opening;
    lines = record { standing = kept.lines.standing; writers = kept.lines.writers };
    small = kept.small;
    rows = record { at = λ q x here. by q x (row_push old.rows.items r q x here) (λ w. kept.rows.at q x w) };
    lets = kept.lets;
    aligned = aligned_push old.rows.items old.known.keys r kept.aligned;
    apart = still_apart old.known.keys r.held.digest kept.apart (kept.known r.held.digest ∙ fresh);
    known = λ tx.
        list_any-append (digest_eq tx) old.known.keys (r.held.digest ∷ [])
        ∙ ap (λ b. b || (digest_eq tx r.held.digest || false)) (kept.known tx)
        ∙ ap (λ b. is_known a tx || b) (or_nothing (digest_eq tx r.held.digest) ∙ digest_turned tx r.held.digest)
        ∙ regrouped (is_admitted a.admitted tx) (list_any (digest_eq tx) a.dropped) (list_any (of_tx tx) a.pending) (digest_eq r.held.digest tx)
        ∙ ap (λ b. is_admitted a.admitted tx || list_any (digest_eq tx) a.dropped || b)
        (sym (ap (list_any (of_tx tx)) pending_more ∙ list_any-append (of_tx tx) a.pending (r.held ∷ []) ∙ ap (λ b. list_any (of_tx tx) a.pending || b) (or_nothing (digest_eq r.held.digest tx))));
    new =
        subst (Each (IsNew a.admitted)) (sym pending_more)
        (each_push (IsNew a.admitted) a.pending r.held kept.new
        (or_false_left (is_admitted a.admitted r.held.digest) (list_any (digest_eq r.held.digest) a.dropped)
        (or_false_left (is_admitted a.admitted r.held.digest || list_any (digest_eq r.held.digest) a.dropped) (list_any (of_tx r.held.digest) a.pending) fresh)));
    waiting = ap (λ n. n + 1) kept.waiting ∙ sym (ap length pending_more ∙ length-append a.pending (r.held ∷ []));
    within = kept.within;
  }
    where
      by : (q : ℕ) (x : PendingCertificate) → (row_at old.rows.items q ≡ Some x) ⊎ (r ≡ x) → (row_at old.rows.items q ≡ Some x → IsRow (opening_of old) old.lines.entries x) → IsRow (opening_of old) old.lines.entries x
      by q x (inl w) more = more w
      by q x (inr is) more = subst (IsRow (opening_of old) old.lines.entries) is row_is

  room_added : HasRoom 0 new
  room_added =
      let x : old.waiting + 1 ≤ spare old.admitted = room.all.admitted in
      let y : vec_len old.dropped + old.waiting + 1 ≤ vec_capacity old.dropped = room.all.dropped in
      let s : spare new.admitted ≡ spare old.admitted = ap spare m.admitted in
      let l : vec_len new.dropped ≡ vec_len old.dropped = ap vec_len m.dropped in
      let k : vec_capacity new.dropped ≡ vec_capacity old.dropped = ap vec_capacity m.dropped in
      let w : new.waiting ≡ old.waiting + 1 = m.waiting in
      record { admitted = omega arith; dropped = omega arith }

  abbrev with_row : Admitting
  with_row = record (shown old) { admission = record a { pending = a.pending ++ r.held ∷ [] } }

  pub row_added : IsKept new × (shown new ≡ with_row)
  row_added = (
    kept_as new added has_added added_kept room_added old.low m.low (skipped_push old.low old.rows.items (Some r) kept.skipped),
    shown_as new added has_added ∙ ap (λ hs. let s : Admitting = record (shown old) { admission = record a { pending = hs } } in s) pending_more,
  )

-- ---- calls

pub entry_is : (s : Admitting) (h : Held) → settled (record s { admission = record s.admission { pending = s.admission.pending ++ h ∷ [] } }) ≡ with_entry s h
unfolding entered
entry_is s h = refl

pub mark_is : (s : Admitting) → settled (with_cut s) ≡ with_mark s
unfolding passed_mark
mark_is s = refl

-- what is listed
pub listed_since : (old new : Admission) (entries : List (Digest × AdmittedCertificate)) (n : ℕ) → new.admitted ≡ map admitted_as entries → n ≡ length old.admitted → map digest_in (drop n entries) ≡ admitted_since old new
listed_since old new entries n is len =
    sym (
    ap (λ xs. map digest_of_admitted (drop (length old.admitted) xs)) is
    ∙ ap (λ k. map digest_of_admitted (drop k (map admitted_as entries))) (sym len)
    ∙ ap (map digest_of_admitted) (drop-map admitted_as n entries)
    ∙ map-map digest_of_admitted admitted_as (drop n entries))

-- no more is listed than there is room for
pub few_entries : (old new : AdmissionTables) → IsKept old → shown new ≡ settled (shown old) → length new.admitted.entries ≤ length old.admitted.entries + old.waiting
few_entries old new kept is =
    let e : length (map admitted_as new.admitted.entries) ≡ length (take_all old.writers (opening_of old) (admission_of old)).admitted = ap (λ (s : Admitting). length s.admission.admitted) is in
    let f : length (take_all old.writers (opening_of old) (admission_of old)).admitted ≤ length (map admitted_as old.admitted.entries) + length (pending_in old.rows.items) =
    few_admitted old.writers (opening_of old) (length (pending_in old.rows.items)) (admission_of old) in
    let n : length (map admitted_as new.admitted.entries) ≡ length new.admitted.entries = length-map new.admitted.entries admitted_as in
    let o : length (map admitted_as old.admitted.entries) ≡ length old.admitted.entries = length-map old.admitted.entries admitted_as in
    let w : old.waiting ≡ length (pending_in old.rows.items) = kept.waiting in
    omega arith

pub few_gone : (old new : AdmissionTables) → IsKept old → shown new ≡ settled (shown old) → length new.dropped.items ≤ length old.dropped.items + old.waiting
few_gone old new kept is =
    let e : length new.dropped.items ≡ length (take_all old.writers (opening_of old) (admission_of old)).dropped = ap (λ (s : Admitting). length s.admission.dropped) is in
    let f : length (take_all old.writers (opening_of old) (admission_of old)).dropped ≤ length old.dropped.items + length (pending_in old.rows.items) =
    few_dropped old.writers (opening_of old) (length (pending_in old.rows.items)) (admission_of old) in
    let w : old.waiting ≡ length (pending_in old.rows.items) = kept.waiting in
    omega arith

pub uncut_is : (entries : List (Digest × AdmittedCertificate)) (n : ℕ) → map digest_in (drop n entries) ≡ map digest_of_admitted (drop n (map admitted_as entries))
uncut_is entries n = sym (ap (map digest_of_admitted) (drop-map admitted_as n entries) ∙ map-map digest_of_admitted admitted_as (drop n entries))
