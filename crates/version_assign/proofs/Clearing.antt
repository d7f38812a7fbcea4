-- What is known of the objects after a mark: all stand where they stood, and nobody wrote them.
use Rattle.std.proofs.Common.{◌≡◌, ℕ, zero, suc, Bool, true, false, cond, ◌||◌, List, [], ◌∷◌, Option, Some, None, length, map, refl, ap, sym, subst, ◌∙◌, inl, inr, ◌+◌, ◌≤◌, ◌<◌, arith, add-one, slice_get}
use Rattle.std.proofs.Math.Seq.{drop-length}
use Rattle.std.proofs.lemmas.List.{drop-map, length-map}
use Rattle.std.proofs.lemmas.List.Sums.{sum_by-append}
use Rattle.std.specs.Prelude.{◌⊎◌, count_by, drop}
use Rattle.std.specs.List.{list_any}
use Rattle.std.specs.Vec.{vec_capacity, vec_len}
use Rattle.indexmap.specs.IndexMap.{spare}
use Rattle.digest_core.specs.declared.Digest.{Digest}
use Rattle.chain_types.specs.declared.objects.ObjectId.{ObjectId}
use Rattle.chain_types.specs.Equal.{id_eq}
use Rattle.protocol_spec.specs.declared.answers.Assigned.{Assigned}
use Rattle.protocol_spec.proofs.Equality.{id_same}
use Rattle.protocol_spec.specs.Chain.Words.{Each}
use Rattle.protocol_spec.specs.Member.Admission.{writes}
use Rattle.version_assign.specs.declared.book.AdmittedCertificate.{AdmittedCertificate}
use Rattle.version_assign.specs.declared.book.AdmissionTables.{AdmissionTables}
use Rattle.version_assign.specs.declared.lines.Line.{Line}
use Rattle.version_assign.specs.Books.{HasRoom, IsKept, IsLet, IsRow, admission_of, admitted_as, opening_of, shown}
use Rattle.version_assign.specs.Calls.{Admitting, with_cut}
use Rattle.version_assign.specs.Lines.{LineMap, clear_all, clear_one, cleared, line_at}
use Rattle.version_assign.specs.Steps.{Marks, clear_each, clear_found}
use Rattle.version_assign.proofs.Lining.{KeepsLines, clear_step, line_put, lined_more}
use Rattle.version_assign.proofs.Listing.{next_at, some_at}
use Rattle.version_assign.proofs.Naming.{of_id}
use Rattle.version_assign.proofs.Parts.{AreKept, Has, Parts, kept_as, parts_of, shown_as}
use Rattle.version_assign.proofs.Taking.{lets_more}

one_line : (es : LineMap) (x : Assigned) (id : ObjectId) → line_at (clear_one es x) id ≡ cond (id_eq id x.id) (cleared (line_at es id)) (line_at es id)
one_line es x id = line_put es x.id (cleared (line_at es x.id)) id ∙ by (id_eq id x.id) refl
  where
    by : (b : Bool) → id_eq id x.id ≡ b → cond b (cleared (line_at es x.id)) (line_at es id) ≡ cond b (cleared (line_at es id)) (line_at es id)
    by true is = ap (λ (k : ObjectId). cleared (line_at es k)) (sym (id_same id x.id is))
    by false is = refl

-- ---- standing

one_stands : (es : LineMap) (x : Assigned) (id : ObjectId) → (line_at (clear_one es x) id).standing ≡ (line_at es id).standing
one_stands es x id = ap (λ (l : Line). l.standing) (one_line es x id) ∙ by (id_eq id x.id)
  where
    by : (b : Bool) → (cond b (cleared (line_at es id)) (line_at es id)).standing ≡ (line_at es id).standing
    by true = refl
    by false = refl

all_stand : (xs : List Assigned) (es : LineMap) (id : ObjectId) → (line_at (clear_all es xs) id).standing ≡ (line_at es id).standing
all_stand [] es id = refl
all_stand (x ∷ xs) es id = all_stand xs (clear_one es x) id ∙ one_stands es x id

pub each_stands : (entries : List (Digest × AdmittedCertificate)) (es : LineMap) (id : ObjectId) → (line_at (clear_each es entries) id).standing ≡ (line_at es id).standing
each_stands [] es id = refl
each_stands (e ∷ entries) es id = each_stands entries (clear_all es e.1.assigned) id ∙ all_stand e.1.assigned es id

-- ---- places

keeps_self : (es : LineMap) → KeepsLines es es
keeps_self es = record { at = λ q has. has }

pub keeps_then : (a b c : LineMap) → KeepsLines a b → KeepsLines b c → KeepsLines a c
keeps_then a b c x y = record { at = λ q has. y.at q (x.at q has) }

pub all_keep : (xs : List Assigned) (es : LineMap) → KeepsLines es (clear_all es xs)
all_keep [] es = keeps_self es
all_keep (x ∷ xs) es = keeps_then es (clear_one es x) (clear_all (clear_one es x) xs) (clear_step es x) (all_keep xs (clear_one es x))

pub each_keeps : (entries : List (Digest × AdmittedCertificate)) (es : LineMap) → KeepsLines es (clear_each es entries)
each_keeps [] es = keeps_self es
each_keeps (e ∷ entries) es = keeps_then es (clear_all es e.1.assigned) (clear_each (clear_all es e.1.assigned) entries) (all_keep e.1.assigned es) (each_keeps entries (clear_all es e.1.assigned))

-- ---- a loop over what was admitted

pub cleared_next : (entries : List (Digest × AdmittedCertificate)) (i : ℕ) (lines new all : LineMap) → i < length entries → new ≡ clear_found lines (slice_get entries i) → clear_each lines (drop i entries) ≡ all → clear_each new (drop (i + 1) entries) ≡ all
cleared_next entries i lines new all within is same = go (slice_get entries i) refl is
  where
    go : (o : Option (Digest × AdmittedCertificate)) → slice_get entries i ≡ o → new ≡ clear_found lines o → clear_each new (drop (i + 1) entries) ≡ all
    go None e f = absurd (some_at entries i within e)
    go (Some x) e f = rw add-one (ap (λ (ls : LineMap). clear_each ls (drop (suc i) entries)) f ∙ sym (ap (clear_each lines) (next_at entries i x e)) ∙ same)

pub found_keeps : (old lines new : LineMap) (o : Option (Digest × AdmittedCertificate)) → KeepsLines old lines → new ≡ clear_found lines o → KeepsLines old new
found_keeps old lines new None kept is = subst (KeepsLines old) (sym is) kept
found_keeps old lines new (Some e) kept is = subst (KeepsLines old) (sym is) (keeps_then old lines (clear_all lines e.1.assigned) kept (all_keep e.1.assigned lines))

-- ---- writers

one_none : (es : LineMap) (x : Assigned) (id : ObjectId) → (line_at es id).writers ≡ 0 → (line_at (clear_one es x) id).writers ≡ 0
one_none es x id none = ap (λ (l : Line). l.writers) (one_line es x id) ∙ by (id_eq id x.id)
  where
    by : (b : Bool) → (cond b (cleared (line_at es id)) (line_at es id)).writers ≡ 0
    by true = refl
    by false = none

all_none : (xs : List Assigned) (es : LineMap) (id : ObjectId) → (line_at es id).writers ≡ 0 → (line_at (clear_all es xs) id).writers ≡ 0
all_none [] es id none = none
all_none (x ∷ xs) es id none = all_none xs (clear_one es x) id (one_none es x id none)

named_none : (xs : List Assigned) (es : LineMap) (id : ObjectId) → list_any (of_id id) xs ≡ true → (line_at (clear_all es xs) id).writers ≡ 0
named_none [] es id named = absurd (cc)
named_none (x ∷ xs) es id named = go (id_eq id x.id) refl named (named_none xs (clear_one es x) id)
  where
    go : (b : Bool) → id_eq id x.id ≡ b → (b || list_any (of_id id) xs) ≡ true → (list_any (of_id id) xs ≡ true → (line_at (clear_all (clear_one es x) xs) id).writers ≡ 0) → (line_at (clear_all (clear_one es x) xs) id).writers ≡ 0
    go true is has more = all_none xs (clear_one es x) id (ap (λ (l : Line). l.writers) (one_line es x id ∙ ap (λ b. cond b (cleared (line_at es id)) (line_at es id)) is))
    go false is has more = more has

away_same : (xs : List Assigned) (es : LineMap) (id : ObjectId) → list_any (of_id id) xs ≡ false → (line_at (clear_all es xs) id).writers ≡ (line_at es id).writers
away_same [] es id away = refl
away_same (x ∷ xs) es id away = go (id_eq id x.id) refl away (away_same xs (clear_one es x) id)
  where
    go : (b : Bool) → id_eq id x.id ≡ b → (b || list_any (of_id id) xs) ≡ false → (list_any (of_id id) xs ≡ false → (line_at (clear_all (clear_one es x) xs) id).writers ≡ (line_at (clear_one es x) id).writers)
        → (line_at (clear_all (clear_one es x) xs) id).writers ≡ (line_at es id).writers
    go true is has more = absurd (cc)
    go false is has more = more has ∙ ap (λ (l : Line). l.writers) (one_line es x id ∙ ap (λ b. cond b (cleared (line_at es id)) (line_at es id)) is)

pub each_none : (lines : LineMap) (entries : List (Digest × AdmittedCertificate)) → Each (IsLet lines) entries → (es : LineMap) (id : ObjectId)
    → ((line_at es id).writers ≡ count_by (writes id) (map admitted_as entries)) ⊎ ((line_at es id).writers ≡ 0) → (line_at (clear_each es entries) id).writers ≡ 0
each_none lines [] all es id (inl counted) = counted
each_none lines [] all es id (inr none) = none
each_none lines (e ∷ entries) all es id counted = go (list_any (of_id id) e.1.assigned) refl counted (each_none lines entries all.1 (clear_all es e.1.assigned) id)
  where
    writes_none : (b : Bool) → writes id (admitted_as e) ≡ b → list_any (of_id id) e.1.assigned ≡ false → b ≡ false
    writes_none true is away = absurd (clash (sym (all.0.named id is) ∙ away))
      where
        clash : true ≡ false → ⊥
        clash f = cc
    writes_none false is away = refl

    less : list_any (of_id id) e.1.assigned ≡ false → count_by (writes id) (map admitted_as (e ∷ entries)) ≡ count_by (writes id) (map admitted_as entries)
    less away =
        sum_by-append (λ x. cond (writes id x) 1 0) (admitted_as e ∷ []) (map admitted_as entries)
        ∙ ap (λ b. (0 + cond b 1 0) + count_by (writes id) (map admitted_as entries)) (writes_none (writes id (admitted_as e)) refl away)
        ∙ zero_more (count_by (writes id) (map admitted_as entries))
      where
        zero_more : (n : ℕ) → (0 + 0) + n ≡ n
        zero_more n = omega arith

    go : (b : Bool) → list_any (of_id id) e.1.assigned ≡ b → ((line_at es id).writers ≡ count_by (writes id) (map admitted_as (e ∷ entries))) ⊎ ((line_at es id).writers ≡ 0)
        → (((line_at (clear_all es e.1.assigned) id).writers ≡ count_by (writes id) (map admitted_as entries)) ⊎ ((line_at (clear_all es e.1.assigned) id).writers ≡ 0) → (line_at (clear_each (clear_all es e.1.assigned) entries) id).writers ≡ 0)
        → (line_at (clear_each (clear_all es e.1.assigned) entries) id).writers ≡ 0
    go true is was more = more (inr (named_none e.1.assigned es id is))
    go false is (inl was) more = more (inl (away_same e.1.assigned es id is ∙ was ∙ less is))
    go false is (inr was) more = more (inr (away_same e.1.assigned es id is ∙ was))

each_drop : {A : Type 0} (P : A → Type 0) (n : ℕ) (xs : List A) → Each P xs → Each P (drop n xs)
each_drop P zero xs all = all
each_drop P (suc n) [] all = tt
each_drop P (suc n) (x ∷ xs) all = each_drop P n xs all.1

-- ---- the step

module _ (old new : AdmissionTables) (kept : IsKept old) (m : Marks old new) where
  abbrev cut_parts : Parts
  cut_parts = record (parts_of old) { lines = clear_each old.lines.entries (drop old.marked old.admitted.entries); marked = length old.admitted.entries }

  has_cut : Has new cut_parts
  has_cut = record {
    opening = ap (λ x. x.entries) m.opening;
    writers = m.writers;
    lines = m.lines;
    rows = ap (λ x. x.items) m.rows;
    admitted = ap (λ x. x.entries) m.admitted;
    dropped = ap (λ x. x.items) m.dropped;
    known = ap (λ x. x.keys) m.known;
    marked = m.marked;
    waiting = m.waiting;
  }

  keeps : KeepsLines old.lines.entries (clear_each old.lines.entries (drop old.marked old.admitted.entries))
  keeps = each_keeps (drop old.marked old.admitted.entries) old.lines.entries

  none_since : (id : ObjectId) → count_by (writes id) (drop (length old.admitted.entries) (map admitted_as old.admitted.entries)) ≡ 0
  none_since id = ap (λ n. count_by (writes id) (drop n (map admitted_as old.admitted.entries))) (sym (length-map old.admitted.entries admitted_as)) ∙ ap (count_by (writes id)) (drop-length (map admitted_as old.admitted.entries))

  cut_kept : AreKept cut_parts
  cut_kept = record {
    opening = kept.opening;
    lines = record {
      standing = λ id. each_stands (drop old.marked old.admitted.entries) old.lines.entries id ∙ kept.lines.standing id;
      writers = λ n limit id.
          each_none old.lines.entries (drop old.marked old.admitted.entries) (each_drop (IsLet old.lines.entries) old.marked old.admitted.entries kept.lets) old.lines.entries id
          (inl (kept.lines.writers n limit id ∙ ap (count_by (writes id)) (drop-map admitted_as old.marked old.admitted.entries)))
          ∙ sym (none_since id);
    };
    small = kept.small;
    rows = record {
      at = λ q x here.
          let w : IsRow (opening_of old) old.lines.entries x = kept.rows.at q x here in
          record { shaped = w.shaped; origins = w.origins; begins = w.begins; lined = lined_more old.lines.entries cut_parts.lines x.assigned.items keeps w.lined };
    };
    lets = lets_more old.lines.entries cut_parts.lines keeps old.admitted.entries kept.lets;
    aligned = kept.aligned;
    apart = kept.apart;
    known = kept.known;
    new = kept.new;
    waiting = kept.waiting;
    within = same (length old.admitted.entries);
  }
    where
      same : (n : ℕ) → n ≤ n
      same n = omega arith

  room_cut : HasRoom 0 new
  room_cut = record {
    admitted = subst (λ w. w + 0 ≤ spare new.admitted) (sym m.waiting) (subst (λ s. old.waiting + 0 ≤ s) (sym (ap spare m.admitted)) kept.room.admitted);
    dropped =
        subst (λ w. vec_len new.dropped + w + 0 ≤ vec_capacity new.dropped) (sym m.waiting)
        (subst (λ l. l + old.waiting + 0 ≤ vec_capacity new.dropped) (sym (ap vec_len m.dropped)) (subst (λ k. vec_len old.dropped + old.waiting + 0 ≤ k) (sym (ap vec_capacity m.dropped)) kept.room.dropped));
  }

  pub cuts : IsKept new × (shown new ≡ with_cut (shown old))
  cuts = (
    kept_as new cut_parts has_cut cut_kept room_cut old.low m.low kept.skipped,
    shown_as new cut_parts has_cut ∙ ap (λ n. let s : Admitting = record (shown old) { admission = record (admission_of old) { marked = n } } in s) (sym (length-map old.admitted.entries admitted_as)),
  )
