-- One certificate is admitted or dropped: what the tables show then, and that they are kept.
use Rattle.std.proofs.Common.{◌≡◌, ℕ, suc, Bool, true, false, cond, not, ◌||◌, List, [], ◌∷◌, ◌++◌, Option, Some, None, is_some, length, map, refl, ap, sym, subst, ◌∙◌, ◌+◌, ◌<◌, ◌≤◌, arith, slice_set, add-one, length-append}
use Rattle.std.proofs.lemmas.Bool.Decides.{nat_tests}
use Rattle.std.proofs.lemmas.List.{drop-append-le, length-map, map-append}
use Rattle.std.proofs.lemmas.List.Folds.{list_any-append}
use Rattle.std.specs.Prelude.{filter, filter_map, nat_le, nat_lt, drop, count_by}
use Rattle.std.specs.List.{list_all, list_any}
use Rattle.std.specs.Vec.{vec_capacity, vec_len}
use Rattle.indexmap.specs.IndexMap.{insert_entry, spare}
use Rattle.digest_core.specs.declared.Digest.{Digest}
use Rattle.chain_types.specs.declared.objects.Object.{Object}
use Rattle.chain_types.specs.declared.objects.ObjectId.{ObjectId}
use Rattle.chain_types.specs.declared.transactions.Input.TheVariants as inputs
use Rattle.chain_types.specs.Equal.{digest_eq, id_eq}
use Rattle.chain_messages.specs.declared.messages.Certificate.{Certificate}
use Rattle.protocol_spec.specs.declared.answers.Assigned.{Assigned}
use Rattle.protocol_spec.specs.declared.answers.Held.{Held}
use Rattle.protocol_spec.proofs.Equality.{digest_turned}
use Rattle.protocol_spec.specs.Chain.Words.{Each}
use Rattle.protocol_spec.specs.Chain.Tests.{has_id}
use Rattle.protocol_spec.specs.Chain.Keys.{version_limit}
use Rattle.protocol_spec.proofs.ListLemmas.{and-second, any-push, filter-each, not-true, each_push}
use Rattle.protocol_spec.specs.Member.Admission.{Admission, Admitted, admit, assignments, has_room, is_admitted, is_dropped, is_free, is_known, is_origin_admitted, joined_inputs, lacks_shared, mutable_ids, not_of, opening_object, is_shared_object, since_mark, taken_as, version_at_admission, writes}
use Rattle.tables.proofs.Lookups.{goes_last}
use Rattle.version_assign.specs.declared.book.AdmittedCertificate.{AdmittedCertificate}
use Rattle.version_assign.specs.declared.book.AdmissionTables.{AdmissionTables}
use Rattle.version_assign.specs.declared.book.PendingCertificate.{PendingCertificate}
use Rattle.version_assign.specs.Books.{stands, AreRows, HasRoom, IsKept, IsLet, IsNew, IsOpening, IsRow, IsSkipped, admission_of, admitted_as, begun_of, held_in, lacks_one, object_in, opening_of, pending_in, row_at, shown, version_within}
use Rattle.version_assign.specs.Calls.{Admitting, with_taken}
use Rattle.version_assign.specs.Lines.{LineMap, begun, filled, greatest_of, line_at, move_all}
use Rattle.version_assign.specs.Steps.{Admits, Drops, Gives, Skips, TakesOut, is_free_one, judged}
use Rattle.version_assign.proofs.Finding.{admitted_is}
use Rattle.version_assign.proofs.Lining.{KeepsLines, lined_more}
use Rattle.version_assign.proofs.Moving.{move_keeps, names_all, standing_after_one, writers_after_one, lined_filled, all_at}
use Rattle.version_assign.proofs.Naming.{Joined, Spot, each_begins, mutables_of, once, spot, writes_are}
use Rattle.version_assign.proofs.Parts.{AreKept, Has, Parts, kept_as, parts_of, shown_as, shown_in}
use Rattle.version_assign.proofs.Rows.{each_row, of_tx, other_left, the_row, out_aligned, out_at, out_length, out_pending, row_waits, skipped_out}
use Rattle.version_assign.proofs.Standing.{all_filled, filled_is, version_is}

-- ---- whether it is dropped

lacks_same : (entries : List (ObjectId × Object)) → IsOpening entries → (js : Joined) → list_any (lacks_one entries) (filter_map (begun (map object_in entries)) js) ≡ list_any (lacks_shared (map object_in entries)) js
lacks_same entries is [] = refl
lacks_same entries is ((inputs.Pure bytes, o) ∷ js) = lacks_same entries is js
lacks_same entries is ((inputs.Owned r, o) ∷ js) = lacks_same entries is js
lacks_same entries is ((inputs.Immutable r, o) ∷ js) = lacks_same entries is js
lacks_same entries is ((inputs.Shared y n m, None) ∷ js) =
    ap (λ b. not b || list_any (lacks_one entries) (filter_map (begun (map object_in entries)) js)) (sym (is.shared y))
    ∙ ap (λ b. not (is_shared_object (opening_object (map object_in entries) y)) || b) (lacks_same entries is js)
lacks_same entries is ((inputs.Shared y n m, Some origin) ∷ js) = lacks_same entries is js

abbrev pub version_or : Bool → ℕ → Option ℕ
version_or true version = None
version_or false version = Some version

within_is : (lacks : Bool) (greatest version : ℕ) → suc greatest ≡ version → version_within lacks greatest ≡ version_or (nat_le version_limit version || lacks) version
within_is lacks greatest version is =
    by lacks (nat_le 4611686018427387903 greatest) refl
    ∙ ap (λ v. version_or (nat_le version_limit v || lacks) v) is
  where
    limit : nat_le version_limit (suc greatest) ≡ nat_le 4611686018427387903 greatest
    limit = grind (arith, nat_tests)

    by : (a b : Bool) → nat_le 4611686018427387903 greatest ≡ b → cond (a || b) None (Some (greatest + 1)) ≡ version_or (nat_le version_limit (suc greatest) || a) (suc greatest)
    by true true e = ap (λ c. version_or (c || true) (suc greatest)) (sym (limit ∙ e))
    by true false e = ap (λ c. version_or (c || true) (suc greatest)) (sym (limit ∙ e))
    by false true e = ap (λ c. version_or (c || false) (suc greatest)) (sym (limit ∙ e))
    by false false e = ap Some (add-one greatest) ∙ ap (λ c. version_or (c || false) (suc greatest)) (sym (limit ∙ e))

pub lets_more : (lines more : LineMap) → KeepsLines lines more → (es : List (Digest × AdmittedCertificate)) → Each (IsLet lines) es → Each (IsLet more) es
lets_more lines more keeps [] all = tt
lets_more lines more keeps (e ∷ es) all = (record { lined = lined_more lines more e.1.assigned keeps all.0.lined; named = all.0.named }, lets_more lines more keeps es all.1)

-- ---- of a row that waits

module _ (old : AdmissionTables) (kept : IsKept old) (p : ℕ) (r : PendingCertificate) (at : row_at old.rows.items p ≡ Some r) where
  abbrev a : Admission
  a = admission_of old

  abbrev opening : List Object
  opening = opening_of old

  abbrev c : Certificate
  c = r.held.cert

  abbrev row : IsRow opening old.lines.entries r
  row = kept.rows.at p r at

  pub filled_now : map (filled old.lines.entries) r.assigned.items ≡ assignments opening a.admitted c
  filled_now =
      ap (map (filled old.lines.entries)) row.begins
      ∙ filled_is opening a.admitted c old.lines.entries row.origins kept.lines.standing (each_begins opening (joined_inputs c) (once c row.origins row.shaped))

  pub judged_now : judged old.opening.entries old.lines.entries c r.assigned.items ≡ version_or (is_dropped opening a.admitted c) (version_at_admission opening a.admitted c)
  judged_now =
      within_is (list_any (lacks_one old.opening.entries) r.assigned.items) (greatest_of c.tx.gas.version c.tx.inputs (map (filled old.lines.entries) r.assigned.items)) (version_at_admission opening a.admitted c)
      (version_is opening a.admitted c (map (filled old.lines.entries) r.assigned.items) row.origins
      (ap (map (filled old.lines.entries)) row.begins
      ∙ all_filled opening a.admitted c old.lines.entries (begun_of opening c) kept.lines.standing (each_begins opening (joined_inputs c) (once c row.origins row.shaped))))
      ∙ ap (λ b. version_or (nat_le version_limit (version_at_admission opening a.admitted c) || b) (version_at_admission opening a.admitted c))
      (ap (list_any (lacks_one old.opening.entries)) row.begins ∙ lacks_same old.opening.entries kept.opening (joined_inputs c))

  -- ---- what is left of the rows

  abbrev left : List (Option PendingCertificate)
  left = slice_set old.rows.items p None

  pending_left : pending_in left ≡ filter (not_of r.held) a.pending
  pending_left = out_pending old.rows.items old.known.keys p r kept.aligned kept.apart at

  rows_left : (lines : LineMap) → KeepsLines old.lines.entries lines → AreRows opening lines left
  rows_left lines more = record {
    at = λ q x here.
        let w : IsRow opening old.lines.entries x = kept.rows.at q x (out_at old.rows.items p q x here) in
        record { shaped = w.shaped; origins = w.origins; begins = w.begins; lined = lined_more old.lines.entries lines x.assigned.items more w.lined };
  }

  is_new : IsNew a.admitted r.held
  is_new = each_row (IsNew a.admitted) old.rows.items p r kept.new at

  -- it is known as before, if it went to one of the lists
  known_again : (tx : Digest) (x y z e : Bool) → (e ≡ true → z ≡ true) → (e ≡ false → list_any (of_tx tx) (pending_in left) ≡ z)
      → ((x || e || y || list_any (of_tx tx) (pending_in left)) ≡ (x || y || z)) × ((x || (y || e) || list_any (of_tx tx) (pending_in left)) ≡ (x || y || z))
  known_again tx true y z e one other = (absorbs e y (list_any (of_tx tx) (pending_in left)), absorbs2 (y || e) (list_any (of_tx tx) (pending_in left)) ∙ sym (absorbs2 y z))
    where
      absorbs2 : (b d : Bool) → (true || b || d) ≡ true
      absorbs2 b d = refl

      absorbs : (b d f : Bool) → (true || b || d || f) ≡ (true || y || z)
      absorbs b d f = refl
  known_again tx false true z e one other = (left_or e (list_any (of_tx tx) (pending_in left)), refl)
    where
      left_or : (b d : Bool) → (false || b || true || d) ≡ true
      left_or true d = refl
      left_or false d = refl
  known_again tx false false z true one other = (sym (one refl), sym (one refl))
  known_again tx false false z false one other = (other refl, other refl)

  knows : (tx : Digest)
      → ((is_admitted a.admitted tx || digest_eq r.held.digest tx || list_any (digest_eq tx) a.dropped || list_any (of_tx tx) (pending_in left)) ≡ is_known a tx)
      × ((is_admitted a.admitted tx || (list_any (digest_eq tx) a.dropped || digest_eq r.held.digest tx) || list_any (of_tx tx) (pending_in left)) ≡ is_known a tx)
  knows tx =
      known_again tx (is_admitted a.admitted tx) (list_any (digest_eq tx) a.dropped) (list_any (of_tx tx) a.pending) (digest_eq r.held.digest tx)
      (λ is. row_waits old.rows.items p r tx at is)
      (λ off. ap (list_any (of_tx tx)) pending_left ∙ other_left r.held tx a.pending off)

  waiting_left : (n : ℕ) → n + 1 ≡ old.waiting → n ≡ length (pending_in left)
  waiting_left n is =
      let l : length (pending_in left) + 1 ≡ length (pending_in old.rows.items) = out_length old.rows.items p r at in
      let w : old.waiting ≡ length (pending_in old.rows.items) = kept.waiting in
      omega arith

  -- ---- it is dropped

  abbrev dropped_parts : ℕ → Parts
  dropped_parts n = record {
    opening = old.opening.entries;
    writers = old.writers;
    lines = old.lines.entries;
    rows = left;
    admitted = old.admitted.entries;
    dropped = old.dropped.items ++ r.held.digest ∷ [];
    known = old.known.keys;
    marked = old.marked;
    waiting = n;
  }

  no_lines : KeepsLines old.lines.entries old.lines.entries
  no_lines = record { at = λ q has. has }

  pub dropped_kept : (n : ℕ) → n + 1 ≡ old.waiting → AreKept (dropped_parts n)
  dropped_kept n is = record {
    opening = kept.opening;
    lines = record { standing = kept.lines.standing; writers = kept.lines.writers };
    small = kept.small;
    rows = rows_left old.lines.entries no_lines;
    lets = kept.lets;
    aligned = out_aligned old.rows.items old.known.keys p kept.aligned;
    apart = kept.apart;
    known = λ tx.
        kept.known tx ∙ sym (
        ap (λ b. is_admitted a.admitted tx || b || list_any (of_tx tx) (pending_in left))
        (list_any-append (digest_eq tx) old.dropped.items (r.held.digest ∷ []) ∙ ap (λ b. list_any (digest_eq tx) old.dropped.items || b) (or_nothing (digest_eq tx r.held.digest) ∙ digest_turned tx r.held.digest))
        ∙ (knows tx).1);
    new = subst (Each (IsNew a.admitted)) (sym pending_left) (filter-each (IsNew a.admitted) (IsNew a.admitted) (not_of r.held) a.pending (λ x t q. q) kept.new);
    waiting = waiting_left n is;
    within = kept.within;
  }
    where
      or_nothing : (b : Bool) → (b || false) ≡ b
      or_nothing true = refl
      or_nothing false = refl

  pub dropped_shown : (n : ℕ) → is_dropped opening a.admitted c ≡ true → shown_in (dropped_parts n) ≡ with_taken (shown old) (Some r.held)
  dropped_shown n drops =
      ap (λ (hs : List Held). let s : Admitting = record (shown old) { admission = record a { dropped = a.dropped ++ r.held.digest ∷ []; pending = hs } } in s) pending_left
      ∙ sym (ap (λ b. let s : Admitting = record (shown old) { admission = taken_as b opening a r.held } in s) drops)

  -- ---- it is admitted

  abbrev version : ℕ
  version = version_at_admission opening a.admitted c

  abbrev assigned : List Assigned
  assigned = map (filled old.lines.entries) r.assigned.items

  abbrev let_in : Digest × AdmittedCertificate
  let_in = (r.held.digest, record { cert = c; version = version; assigned = assigned })

  abbrev moved_lines : LineMap
  moved_lines = move_all version r.held.digest old.lines.entries assigned

  abbrev admitted_parts : ℕ → Parts
  admitted_parts n = record {
    opening = old.opening.entries;
    writers = old.writers;
    lines = moved_lines;
    rows = left;
    admitted = old.admitted.entries ++ let_in ∷ [];
    dropped = old.dropped.items;
    known = old.known.keys;
    marked = old.marked;
    waiting = n;
  }

  pub goes_behind : insert_entry digest_eq old.admitted.entries r.held.digest let_in.1 ≡ old.admitted.entries ++ let_in ∷ []
  goes_behind = goes_last digest_eq old.admitted.entries r.held.digest let_in.1 (admitted_is old.admitted.entries r.held.digest ∙ is_new)

  more_admitted : map admitted_as (old.admitted.entries ++ let_in ∷ []) ≡ a.admitted ++ admitted_as let_in ∷ []
  more_admitted = map-append admitted_as old.admitted.entries (let_in ∷ [])

  pub admitted_shown : (n : ℕ) → is_dropped opening a.admitted c ≡ false → shown_in (admitted_parts n) ≡ with_taken (shown old) (Some r.held)
  unfolding admit
  admitted_shown n stays =
      ap (λ (adm : List Admitted). let s : Admitting = record (shown old) { admission = record a { admitted = adm; pending = pending_in left } } in s) more_admitted
      ∙ ap (λ (xs : List Assigned). let s : Admitting = record (shown old) { admission = record a { admitted = a.admitted ++ (record { digest = r.held.digest; cert = c; version = version; assigned = xs }) ∷ []; pending = pending_in left } } in s) filled_now
      ∙ ap (λ (hs : List Held). let s : Admitting = record (shown old) { admission = record a { admitted = a.admitted ++ admit opening a.admitted r.held ∷ []; pending = hs } } in s) pending_left
      ∙ sym (ap (λ b. let s : Admitting = record (shown old) { admission = taken_as b opening a r.held } in s) stays)

  abbrev spots : (id : ObjectId) → Spot opening id (joined_inputs c)
  spots id = spot opening id (joined_inputs c) (once c row.origins row.shaped)

  wrote : (id : ObjectId) → writes id (admitted_as let_in) ≡ has_id (mutables_of (joined_inputs c)) id
  wrote id = ap (λ ids. has_id ids id) (sym (writes_are c row.origins))

  begun_filled : map (filled old.lines.entries) (begun_of opening c) ≡ assigned
  begun_filled = ap (map (filled old.lines.entries)) (sym row.begins)

  lines_now : (xs : List Assigned) → map (filled old.lines.entries) (begun_of opening c) ≡ xs
      → move_all version r.held.digest old.lines.entries (map (filled old.lines.entries) (begun_of opening c)) ≡ move_all version r.held.digest old.lines.entries xs
  lines_now xs is = ap (move_all version r.held.digest old.lines.entries) is

  standing_now : (id : ObjectId) → (line_at moved_lines id).standing ≡ stands opening (map admitted_as (old.admitted.entries ++ let_in ∷ [])) id
  standing_now id =
      ap (λ (ls : LineMap). (line_at ls id).standing) (sym (lines_now assigned begun_filled))
      ∙ standing_after_one opening a.admitted c old.lines.entries (admitted_as let_in) refl wrote kept.lines.standing id (spots id)
      ∙ ap (λ (adm : List Admitted). stands opening adm id) (sym more_admitted)

  has_room_for : (n : ℕ) → old.writers ≡ Some n → is_free old.writers a r.held ≡ true → (id : ObjectId) → has_id (mutables_of (joined_inputs c)) id ≡ true → nat_lt (count_by (writes id) (since_mark a)) n ≡ true
  has_room_for n limit free id named =
      let rooms : list_all (has_room old.writers a) (mutable_ids c) ≡ true = and-second (list_all (is_origin_admitted a) c.origins) (list_all (has_room old.writers a) (mutable_ids c)) free in
      let here : has_room old.writers a id ≡ true = all_at (has_room old.writers a) id (mutable_ids c) rooms (ap (λ ids. has_id ids id) (sym (writes_are c row.origins)) ∙ named) in
      ap (λ o. has_room o a id) (sym limit) ∙ here

  within_all : old.marked ≤ length a.admitted
  within_all = subst (λ n. old.marked ≤ n) (sym (length-map old.admitted.entries admitted_as)) kept.within

  writers_now : is_free old.writers a r.held ≡ true → (n : ℕ) → old.writers ≡ Some n → (id : ObjectId)
      → (line_at moved_lines id).writers ≡ count_by (writes id) (drop old.marked (map admitted_as (old.admitted.entries ++ let_in ∷ [])))
  writers_now free n limit id =
      ap (λ (ls : LineMap). (line_at ls id).writers) (sym (lines_now assigned begun_filled))
      ∙ writers_after_one opening a.admitted c old.lines.entries (admitted_as let_in) refl wrote kept.lines.standing n (kept.small n limit) (since_mark a) id (kept.lines.writers n limit id)
      (has_room_for n limit free id) (spots id)
      ∙ ap (count_by (writes id)) (sym (ap (drop old.marked) more_admitted ∙ drop-append-le old.marked a.admitted (admitted_as let_in ∷ []) within_all))

  all_lets : Each (IsLet moved_lines) (old.admitted.entries ++ let_in ∷ [])
  all_lets =
      each_push (IsLet moved_lines) old.admitted.entries let_in
      (lets_more old.lines.entries moved_lines (move_keeps version r.held.digest assigned old.lines.entries) old.admitted.entries kept.lets)
      (record {
        lined = lined_more old.lines.entries moved_lines assigned (move_keeps version r.held.digest assigned old.lines.entries) (lined_filled old.lines.entries old.lines.entries r.assigned.items row.lined);
        named = λ id w.
            subst (λ (xs : List Assigned). list_any (λ (x : Assigned). id_eq id x.id) xs ≡ true) begun_filled
            (names_all opening a.admitted c old.lines.entries (admitted_as let_in) refl wrote kept.lines.standing id (spots id) w);
      })

  new_again : Each (IsNew (map admitted_as (old.admitted.entries ++ let_in ∷ []))) (pending_in left)
  new_again =
      subst (λ (hs : List Held). Each (IsNew (map admitted_as (old.admitted.entries ++ let_in ∷ []))) hs) (sym pending_left)
      (subst (λ (adm : List Admitted). Each (IsNew adm) (filter (not_of r.held) a.pending)) (sym more_admitted)
      (filter-each (IsNew a.admitted) (IsNew (a.admitted ++ admitted_as let_in ∷ [])) (not_of r.held) a.pending
      (λ x t q. any-push (λ (y : Admitted). digest_eq y.digest x.digest) a.admitted (admitted_as let_in) q (not-true (digest_eq r.held.digest x.digest) t)) kept.new))

  pub admitted_kept : (n : ℕ) → n + 1 ≡ old.waiting → is_free old.writers a r.held ≡ true → AreKept (admitted_parts n)
  admitted_kept n is free = record {
    opening = kept.opening;
    lines = record { standing = standing_now; writers = writers_now free };
    small = kept.small;
    rows = rows_left moved_lines (move_keeps version r.held.digest assigned old.lines.entries);
    lets = all_lets;
    aligned = out_aligned old.rows.items old.known.keys p kept.aligned;
    apart = kept.apart;
    known = λ tx.
        kept.known tx ∙ sym (
        ap (λ b. b || list_any (digest_eq tx) old.dropped.items || list_any (of_tx tx) (pending_in left)) (ap (λ (adm : List Admitted). is_admitted adm tx) more_admitted ∙ list_any-append (λ (y : Admitted). digest_eq y.digest tx) a.admitted (admitted_as let_in ∷ []) ∙ ap (λ b. is_admitted a.admitted tx || b) (or_nothing (digest_eq r.held.digest tx)))
        ∙ (knows tx).0);
    new = new_again;
    waiting = waiting_left n is;
    within = let l : length old.admitted.entries + 1 ≡ length (old.admitted.entries ++ let_in ∷ []) = sym (length-append old.admitted.entries (let_in ∷ [])) in let w : old.marked ≤ length old.admitted.entries = kept.within in omega arith;
  }
    where
      or_nothing : (b : Bool) → (b || false) ≡ b
      or_nothing true = refl
      or_nothing false = refl

-- ---- the step

module _ (old mid new : AdmissionTables) (p : ℕ) (r : PendingCertificate) (kept : IsKept old) (t : TakesOut old mid p r) (gives : Gives mid new r.held r.assigned.items (judged mid.opening.entries mid.lines.entries r.held.cert r.assigned.items))
    (free : is_free old.writers (admission_of old) r.held ≡ true) where
  drops_case : is_dropped (opening_of old) (admission_of old).admitted r.held.cert ≡ true → Drops mid new r.held → IsKept new × (shown new ≡ with_taken (shown old) (Some r.held))
  drops_case drops d = (
    kept_as new (dropped_parts old kept p r t.row new.waiting) has (dropped_kept old kept p r t.row new.waiting fewer) room old.low (d.low ∙ t.low) (skipped_out old.low old.rows.items p kept.skipped),
    shown_as new (dropped_parts old kept p r t.row new.waiting) has ∙ dropped_shown old kept p r t.row new.waiting drops,
  )
    where
      fewer : new.waiting + 1 ≡ old.waiting
      fewer = ap (λ n. n + 1) d.waiting ∙ t.waiting

      has : Has new (dropped_parts old kept p r t.row new.waiting)
      has = record {
        opening = d.opening ∙ t.opening;
        writers = d.writers ∙ t.writers;
        lines = d.lines ∙ t.lines;
        rows = d.rows ∙ t.rows;
        admitted = ap (λ m. m.entries) d.admitted ∙ ap (λ m. m.entries) t.admitted;
        dropped = d.dropped ∙ ap (λ v. v.items ++ r.held.digest ∷ []) t.dropped;
        known = d.known ∙ t.known;
        marked = d.marked ∙ t.marked;
        waiting = refl;
      }

      room : HasRoom 0 new
      room =
          let s : spare new.admitted ≡ spare old.admitted = ap spare d.admitted ∙ ap spare t.admitted in
          let l : vec_len mid.dropped ≡ vec_len old.dropped = ap vec_len t.dropped in
          let k : vec_capacity mid.dropped ≡ vec_capacity old.dropped = ap vec_capacity t.dropped in
          let f : new.waiting + 1 ≡ old.waiting = fewer in
          let n : vec_len new.dropped ≡ vec_len mid.dropped + 1 = d.len in
          let m : vec_capacity mid.dropped ≤ vec_capacity new.dropped = d.room in
          let x : old.waiting + 0 ≤ spare old.admitted = kept.room.admitted in
          let y : vec_len old.dropped + old.waiting + 0 ≤ vec_capacity old.dropped = kept.room.dropped in
          record { admitted = omega arith; dropped = omega arith }

  admits_case : is_dropped (opening_of old) (admission_of old).admitted r.held.cert ≡ false
      → Admits mid new r.held (map (filled mid.lines.entries) r.assigned.items) (version_at_admission (opening_of old) (admission_of old).admitted r.held.cert)
      → IsKept new × (shown new ≡ with_taken (shown old) (Some r.held))
  admits_case stays d = (
    kept_as new (admitted_parts old kept p r t.row new.waiting) has (admitted_kept old kept p r t.row new.waiting fewer free) room old.low (d.low ∙ t.low) (skipped_out old.low old.rows.items p kept.skipped),
    shown_as new (admitted_parts old kept p r t.row new.waiting) has ∙ admitted_shown old kept p r t.row new.waiting stays,
  )
    where
      fewer : new.waiting + 1 ≡ old.waiting
      fewer = ap (λ n. n + 1) d.waiting ∙ t.waiting

      has : Has new (admitted_parts old kept p r t.row new.waiting)
      has = record {
        opening = d.opening ∙ t.opening;
        writers = d.writers ∙ t.writers;
        lines = d.lines ∙ ap (λ (ls : LineMap). move_all (version_at_admission (opening_of old) (admission_of old).admitted r.held.cert) r.held.digest ls (map (filled ls) r.assigned.items)) t.lines;
        rows = d.rows ∙ t.rows;
        admitted =
            d.admitted
            ∙ ap (λ (es : List (Digest × AdmittedCertificate)). insert_entry digest_eq es r.held.digest (record { cert = r.held.cert; version = version_at_admission (opening_of old) (admission_of old).admitted r.held.cert; assigned = map (filled mid.lines.entries) r.assigned.items })) (ap (λ m. m.entries) t.admitted)
            ∙ ap (λ (ls : LineMap). insert_entry digest_eq old.admitted.entries r.held.digest (record { cert = r.held.cert; version = version_at_admission (opening_of old) (admission_of old).admitted r.held.cert; assigned = map (filled ls) r.assigned.items })) t.lines
            ∙ goes_behind old kept p r t.row;
        dropped = ap (λ v. v.items) d.dropped ∙ ap (λ v. v.items) t.dropped;
        known = d.known ∙ t.known;
        marked = d.marked ∙ t.marked;
        waiting = refl;
      }

      room : HasRoom 0 new
      room =
          let s : spare mid.admitted ≡ spare old.admitted = ap spare t.admitted in
          let l : vec_len new.dropped ≡ vec_len old.dropped = ap vec_len d.dropped ∙ ap vec_len t.dropped in
          let k : vec_capacity new.dropped ≡ vec_capacity old.dropped = ap vec_capacity d.dropped ∙ ap vec_capacity t.dropped in
          let f : new.waiting + 1 ≡ old.waiting = fewer in
          let n : spare mid.admitted ≤ spare new.admitted + 1 = d.room in
          let x : old.waiting + 0 ≤ spare old.admitted = kept.room.admitted in
          let y : vec_len old.dropped + old.waiting + 0 ≤ vec_capacity old.dropped = kept.room.dropped in
          record { admitted = omega arith; dropped = omega arith }

  pub took : IsKept new × (shown new ≡ with_taken (shown old) (Some r.held))
  took = go (is_dropped (opening_of old) (admission_of old).admitted r.held.cert) refl (subst (λ o. Gives mid new r.held r.assigned.items o) judged_old gives)
    where
      judged_old : judged mid.opening.entries mid.lines.entries r.held.cert r.assigned.items ≡ version_or (is_dropped (opening_of old) (admission_of old).admitted r.held.cert) (version_at_admission (opening_of old) (admission_of old).admitted r.held.cert)
      judged_old =
          ap (λ (es : List (ObjectId × Object)). judged es mid.lines.entries r.held.cert r.assigned.items) t.opening
          ∙ ap (λ (ls : LineMap). judged old.opening.entries ls r.held.cert r.assigned.items) t.lines
          ∙ judged_now old kept p r t.row

      go : (b : Bool) → is_dropped (opening_of old) (admission_of old).admitted r.held.cert ≡ b
          → Gives mid new r.held r.assigned.items (version_or b (version_at_admission (opening_of old) (admission_of old).admitted r.held.cert))
          → IsKept new × (shown new ≡ with_taken (shown old) (Some r.held))
      go true is g = drops_case is g
      go false is g = admits_case is g

-- ---- what the step asks

pub waits_some : (old : AdmissionTables) → IsKept old → (p : ℕ) → is_some (row_at old.rows.items p) ≡ true → 0 < old.waiting
waits_some old kept p some =
    let r : (r : PendingCertificate) × (row_at old.rows.items p ≡ Some r) = the_row (row_at old.rows.items p) some in
    let l : length (pending_in (slice_set old.rows.items p None)) + 1 ≡ length (pending_in old.rows.items) = out_length old.rows.items p r.0 r.1 in
    let w : old.waiting ≡ length (pending_in old.rows.items) = kept.waiting in
    omega arith

pub row_free : (s : Admitting) (o : Option PendingCertificate) (r : PendingCertificate) → o ≡ Some r → is_free_one s (held_in o) ≡ true → is_free s.writers s.admission r.held ≡ true
row_free s o r is free = ap (λ q. is_free_one s (held_in q)) (sym is) ∙ free

pub seen_as : (s : Admitting) (o : Option PendingCertificate) (r : PendingCertificate) → o ≡ Some r → with_taken s (Some r.held) ≡ with_taken s (held_in o)
seen_as s o r is = ap (λ q. with_taken s (held_in q)) (sym is)

-- ---- places are skipped

pub skips : (old new : AdmissionTables) → IsKept old → Skips old new → IsKept new × (shown new ≡ shown old)
skips old new kept m = (
  kept_as new (parts_of old) has (record {
    opening = kept.opening;
    lines = kept.lines;
    small = kept.small;
    rows = kept.rows;
    lets = kept.lets;
    aligned = kept.aligned;
    apart = kept.apart;
    known = kept.known;
    new = kept.new;
    waiting = kept.waiting;
    within = kept.within;
  }) room new.low refl (subst (IsSkipped new.low) (ap (λ x. x.items) m.rows) m.skipped),
  shown_as new (parts_of old) has,
)
  where
    has : Has new (parts_of old)
    has = record {
      opening = ap (λ x. x.entries) m.opening;
      writers = m.writers;
      lines = ap (λ x. x.entries) m.lines;
      rows = ap (λ x. x.items) m.rows;
      admitted = ap (λ x. x.entries) m.admitted;
      dropped = ap (λ x. x.items) m.dropped;
      known = ap (λ x. x.keys) m.known;
      marked = m.marked;
      waiting = m.waiting;
    }

    room : HasRoom 0 new
    room =
        let s : spare new.admitted ≡ spare old.admitted = ap spare m.admitted in
        let l : vec_len new.dropped ≡ vec_len old.dropped = ap vec_len m.dropped in
        let k : vec_capacity new.dropped ≡ vec_capacity old.dropped = ap vec_capacity m.dropped in
        let w : new.waiting ≡ old.waiting = m.waiting in
        let x : old.waiting + 0 ≤ spare old.admitted = kept.room.admitted in
        let y : vec_len old.dropped + old.waiting + 0 ≤ vec_capacity old.dropped = kept.room.dropped in
        record { admitted = omega arith; dropped = omega arith }
