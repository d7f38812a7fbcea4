-- The tables, and where those that wait are filed, after each call.
use Rattle.std.proofs.Common.{◌≡◌, ℕ, zero, suc, Bool, true, false, cond, ◌||◌, List, [], ◌∷◌, ◌++◌, Option, Some, None, length, map, refl, ap, sym, subst, ◌∙◌, inl, inr, ◌+◌, ◌≤◌, arith, drop, zero-add}
use Rattle.std.proofs.lemmas.Bool.Decides.{nat_tests}
use Rattle.std.proofs.lemmas.List.{drop-append-le, length-map}
use Rattle.std.proofs.lemmas.List.Folds.{list_any-append}
use Rattle.std.proofs.lemmas.List.Sums.{sum_by-append}
use Rattle.std.specs.Prelude.{◌⊎◌, count_by, nat_lt}
use Rattle.std.specs.List.{list_any}
use Rattle.digest_core.specs.declared.Digest.{Digest}
use Rattle.chain_types.specs.declared.objects.Object.{Object}
use Rattle.chain_types.specs.declared.objects.ObjectId.{ObjectId}
use Rattle.chain_types.specs.Equal.{digest_eq}
use Rattle.protocol_spec.specs.declared.answers.Held.{Held}
use Rattle.protocol_spec.specs.Member.Admission.{Admission, Admitted, admit, has_room, is_admitted, is_dropped, since_mark, taken_as, writes}
use Rattle.version_assign.specs.declared.book.AdmittedCertificate.{AdmittedCertificate}
use Rattle.version_assign.specs.declared.book.AdmissionTables.{AdmissionTables}
use Rattle.version_assign.specs.declared.book.PendingCertificate.{PendingCertificate}
use Rattle.version_assign.specs.declared.waits.PendingIndex.{PendingIndex}
use Rattle.version_assign.specs.Books.{AreLines, IsKept, admission_of, admitted_as, opening_of, row_at, shown}
use Rattle.version_assign.specs.Calls.{Admitting, with_taken}
use Rattle.version_assign.specs.Lines.{LineMap}
use Rattle.version_assign.specs.Steps.{AddsRow, Gives, Marks, TakesOut, judged}
use Rattle.version_assign.specs.Waiting.{Grows, IsFiled, IsFiledIn, Reason, Turn, admits_also, admits_in, has_turn, is_awake, is_full, is_open, is_queued, may_be_free, none_open, room_in, stands_behind, writes_at, wrote_one}
use Rattle.version_assign.proofs.Filed.{filed_grows}
use Rattle.version_assign.proofs.Moved.{same_admits, same_room}
use Rattle.version_assign.proofs.Moving.{count_push}
use Rattle.version_assign.proofs.Rows.{clash}

-- ---- other words for what is admitted and has room

module _ (rows : List (Option PendingCertificate)) (w : PendingIndex) (admits later : Digest → Bool) (room after : ObjectId → Bool) (due other : ObjectId → Bool)
    (still : (tx : Digest) → admits tx ≡ false → later tx ≡ false) (full : (id : ObjectId) → room id ≡ false → (other id ≡ true) ⊎ (after id ≡ false)) (more : (id : ObjectId) → due id ≡ true → other id ≡ true) where
  pub filed_as : IsFiled rows w admits room due → IsFiled rows w later after other
  filed_as filed = record { at = λ whole q x here. go q x (filed.at whole q x here) }
    where
      turn_of : (id : ObjectId) (q : ℕ) → Turn rows w room due id q → Turn rows w after other id q
      turn_of id q (is_open e) = is_open (more id e)
      turn_of id q (has_turn p awake before writes) = has_turn p awake before writes
      turn_of id q (is_full none) = by (full id none)
        where
          by : (other id ≡ true) ⊎ (after id ≡ false) → Turn rows w after other id q
          by (inl o) = is_open o
          by (inr f) = is_full f

      go : (q : ℕ) (x : PendingCertificate) → Reason rows w admits room due q x.held.cert → Reason rows w later after other q x.held.cert
      go q x (may_be_free awake) = may_be_free awake
      go q x (stands_behind tx has off under) = stands_behind tx has (still tx off) under
      go q x (is_queued id named under turn) = is_queued id named under (turn_of id q turn)

-- nothing is seen to move
pub filed_same : (old new : AdmissionTables) (w : PendingIndex) → shown new ≡ shown old → new.rows.items ≡ old.rows.items → IsFiledIn old w → IsFiledIn new w
filed_same old new w same rows filed =
    subst (λ (s : Admitting). IsFiled new.rows.items w (is_admitted s.admission.admitted) (has_room s.writers s.admission) none_open) (sym same)
    (subst (λ (rs : List (Option PendingCertificate)). IsFiled rs w (admits_in old) (room_in old) none_open) (sym rows) filed)

-- ---- one is taken

taken_admits : (b : Bool) (opening : List Object) (a : Admission) (h : Held) (tx : Digest) → (is_admitted a.admitted tx || digest_eq h.digest tx) ≡ false → is_admitted (taken_as b opening a h).admitted tx ≡ false
unfolding admit
taken_admits true opening a h tx off = first (is_admitted a.admitted tx) (digest_eq h.digest tx) off
  where
    first : (x y : Bool) → (x || y) ≡ false → x ≡ false
    first true y e = absurd (cc)
    first false y e = refl
taken_admits false opening a h tx off =
    list_any-append (λ (y : Admitted). digest_eq y.digest tx) a.admitted (admit opening a.admitted h ∷ [])
    ∙ ap (λ b. is_admitted a.admitted tx || b) (or_nothing (digest_eq h.digest tx)) ∙ off
  where
    or_nothing : (b : Bool) → (b || false) ≡ b
    or_nothing true = refl
    or_nothing false = refl

taken_room : (b : Bool) (opening : List Object) (writers : Option ℕ) (a : Admission) (h : Held) (id : ObjectId) → a.marked ≤ length a.admitted → has_room writers a id ≡ false → has_room writers (taken_as b opening a h) id ≡ false
taken_room b opening None a h id within full = absurd (cc)
taken_room true opening (Some n) a h id within full = full
taken_room false opening (Some n) a h id within full =
    ap (λ xs. nat_lt (count_by (writes id) xs) n) (drop-append-le a.marked a.admitted (admit opening a.admitted h ∷ []) within)
    ∙ ap (λ k. nat_lt k n) (count_push (writes id) (since_mark a) (admit opening a.admitted h))
    ∙ above (count_by (writes id) (since_mark a)) (cond (writes id (admit opening a.admitted h)) 1 0) n full
  where
    above : (k more limit : ℕ) → nat_lt k limit ≡ false → nat_lt (k + more) limit ≡ false
    above k more limit e = grind (arith, nat_tests)

rows_stay : (mid new : AdmissionTables) (r : PendingCertificate) (o : Option ℕ) → Gives mid new r.held r.assigned.items o → new.rows.items ≡ mid.rows.items
rows_stay mid new r None d = d.rows
rows_stay mid new r (Some v) d = d.rows

pub given_filed : (before mid new : AdmissionTables) (place : ℕ) (r : PendingCertificate) (w : PendingIndex) → IsKept before → TakesOut before mid place r → Gives mid new r.held r.assigned.items (judged mid.opening.entries mid.lines.entries r.held.cert r.assigned.items)
    → shown new ≡ with_taken (shown before) (Some r.held) → IsFiled mid.rows.items w (admits_also (admits_in mid) r.held.digest) (room_in mid) none_open → IsFiledIn new w
given_filed before mid new place r w kept t gives seen filed =
    subst (λ (s : Admitting). IsFiled new.rows.items w (is_admitted s.admission.admitted) (has_room s.writers s.admission) none_open) (sym seen)
    (subst (λ (rs : List (Option PendingCertificate)). IsFiled rs w (is_admitted a.admitted) (has_room before.writers a) none_open) (sym (rows_stay mid new r (judged mid.opening.entries mid.lines.entries r.held.cert r.assigned.items) gives))
    (filed_as mid.rows.items w (admits_also (admits_in mid) r.held.digest) (is_admitted a.admitted) (room_in mid) (has_room before.writers a) none_open none_open
    (λ tx off. taken_admits dropped (opening_of before) (admission_of before) r.held tx (ap (λ b. b || digest_eq r.held.digest tx) (sym (same_admits before mid place r t tx)) ∙ off))
    (λ id full. inr (taken_room dropped (opening_of before) before.writers (admission_of before) r.held id within (sym (same_room before mid place r t id) ∙ full)))
    (λ id e. e) filed))
  where
    dropped : Bool
    dropped = is_dropped (opening_of before) (admission_of before).admitted r.held.cert

    a : Admission
    a = taken_as (is_dropped (opening_of before) (admission_of before).admitted r.held.cert) (opening_of before) (admission_of before) r.held

    within : before.marked ≤ length (map admitted_as before.admitted.entries)
    within = subst (λ n. before.marked ≤ n) (sym (length-map before.admitted.entries admitted_as)) kept.within

-- what is known of objects, if a certificate is taken out
pub lines_out : (before mid : AdmissionTables) (place : ℕ) (r : PendingCertificate) → IsKept before → TakesOut before mid place r → AreLines mid.writers (opening_of mid) (admission_of mid) mid.lines.entries
lines_out before mid place r kept t =
    subst (λ (es : LineMap). AreLines mid.writers (opening_of mid) (admission_of mid) es) (sym t.lines)
    (subst (λ (n : Option ℕ). AreLines n (opening_of mid) (admission_of mid) before.lines.entries) (sym t.writers)
    (subst (λ (os : List Object). AreLines before.writers os (admission_of mid) before.lines.entries) (sym (ap (map (λ e. e.1)) t.opening))
    (record {
      standing = λ id. kept.lines.standing id ∙ ap (λ (xs : List Admitted). Rattle.version_assign.specs.Books.stands (opening_of before) xs id) (sym adm);
      writers = λ n limit id. kept.lines.writers n limit id ∙ ap (λ (xs : List Admitted). count_by (writes id) (drop before.marked xs)) (sym adm) ∙ ap (λ k. count_by (writes id) (drop k (admission_of mid).admitted)) (sym t.marked);
    })))
  where
    adm : (admission_of mid).admitted ≡ (admission_of before).admitted
    adm = ap (λ m. map admitted_as m.entries) t.admitted

-- ---- one more row

pub added_filed : (old new : AdmissionTables) (r : PendingCertificate) (w v : PendingIndex) (place : ℕ) → place ≡ length old.rows.items → AddsRow old new r → Grows w v → (v.whole ≡ true → is_awake v place ≡ true) → IsFiledIn old w → IsFiledIn new v
added_filed old new r w v place is m grows woken filed = record { at = λ whole q x here. go whole q x (row_of old.rows.items q x (sym (ap (λ rows. row_at rows q) m.rows) ∙ here)) }
  where
    row_of : (rows : List (Option PendingCertificate)) (q : ℕ) (x : PendingCertificate) → row_at (rows ++ Some r ∷ []) q ≡ Some x → (row_at rows q ≡ Some x) ⊎ (q ≡ length rows)
    row_of [] zero x at = inr refl
    row_of [] (suc q) x at = absurd (cc)
    row_of (y ∷ rows) zero x at = inl at
    row_of (y ∷ rows) (suc q) x at = next (row_of rows q x at)
      where
        next : (row_at rows q ≡ Some x) ⊎ (q ≡ length rows) → (row_at rows q ≡ Some x) ⊎ (suc q ≡ suc (length rows))
        next (inl a) = inl a
        next (inr b) = inr (ap suc b)

    stays : (rows : List (Option PendingCertificate)) (p : ℕ) (id : ObjectId) → writes_at rows p id ≡ true → writes_at (rows ++ Some r ∷ []) p id ≡ true
    stays [] zero id e = absurd (cc)
    stays [] (suc p) id e = absurd (cc)
    stays (y ∷ rows) zero id e = e
    stays (y ∷ rows) (suc p) id e = stays rows p id e

    admits_same : (tx : Digest) → admits_in new tx ≡ admits_in old tx
    admits_same tx = ap (λ e. is_admitted (map admitted_as e.entries) tx) m.admitted

    room_same : (id : ObjectId) → room_in new id ≡ room_in old id
    room_same id = ap (λ (n : Option ℕ). has_room n (admission_of new) id) m.writers ∙ by old.writers
      where
        by : (n : Option ℕ) → has_room n (admission_of new) id ≡ has_room n (admission_of old) id
        by None = refl
        by (Some n) =
            ap (λ e. nat_lt (count_by (writes id) (drop new.marked (map admitted_as e.entries))) n) m.admitted
            ∙ ap (λ k. nat_lt (count_by (writes id) (drop k (map admitted_as old.admitted.entries))) n) m.marked

    turn_of : (id : ObjectId) (q : ℕ) → Turn old.rows.items v (room_in old) none_open id q → Turn new.rows.items v (room_in new) none_open id q
    turn_of id q (is_full full) = is_full (room_same id ∙ full)
    turn_of id q (is_open e) = is_open e
    turn_of id q (has_turn p awake before writes) = has_turn p awake before (ap (λ rows. writes_at rows p id) m.rows ∙ stays old.rows.items p id writes)

    reason : (q : ℕ) (x : PendingCertificate) → Reason old.rows.items v (admits_in old) (room_in old) none_open q x.held.cert → Reason new.rows.items v (admits_in new) (room_in new) none_open q x.held.cert
    reason q x (may_be_free awake) = may_be_free awake
    reason q x (stands_behind tx has off under) = stands_behind tx has (admits_same tx ∙ off) under
    reason q x (is_queued id named under turn) = is_queued id named under (turn_of id q turn)

    go : v.whole ≡ true → (q : ℕ) (x : PendingCertificate) → (row_at old.rows.items q ≡ Some x) ⊎ (q ≡ length old.rows.items) → Reason new.rows.items v (admits_in new) (room_in new) none_open q x.held.cert
    go whole q x (inl here) = reason q x ((filed_grows old.rows.items (admits_in old) (room_in old) none_open w v grows filed).at whole q x here)
    go whole q x (inr last) = may_be_free (ap (is_awake v) (last ∙ sym is) ∙ woken whole)

-- ---- a cut

-- an object that had its writers has them still, or was written since the last cut
fewer : (limit : ℕ) (id : ObjectId) (xs : List Admitted) → nat_lt (count_by (writes id) xs) limit ≡ false → (list_any (writes id) xs ≡ true) ⊎ (nat_lt 0 limit ≡ false)
fewer limit id [] e = inr e
fewer limit id (x ∷ xs) e = go (writes id x) refl (sym (ap (λ k. nat_lt k limit) split) ∙ e) (fewer limit id xs)
  where
    split : count_by (writes id) (x ∷ xs) ≡ cond (writes id x) 1 0 + count_by (writes id) xs
    split = sum_by-append (λ y. cond (writes id y) 1 0) (x ∷ []) xs ∙ ap (λ k. k + count_by (writes id) xs) (zero-add (cond (writes id x) 1 0))

    go : (b : Bool) → writes id x ≡ b → nat_lt (cond (writes id x) 1 0 + count_by (writes id) xs) limit ≡ false → (nat_lt (count_by (writes id) xs) limit ≡ false → (list_any (writes id) xs ≡ true) ⊎ (nat_lt 0 limit ≡ false))
        → ((writes id x || list_any (writes id) xs) ≡ true) ⊎ (nat_lt 0 limit ≡ false)
    go true is f more = inl (ap (λ b. b || list_any (writes id) xs) is)
    go false is f more =
        by (more (sym (ap (λ k. nat_lt k limit) (ap (λ b. cond b 1 0 + count_by (writes id) xs) is ∙ zero-add (count_by (writes id) xs))) ∙ f))
      where
        by : (list_any (writes id) xs ≡ true) ⊎ (nat_lt 0 limit ≡ false) → ((writes id x || list_any (writes id) xs) ≡ true) ⊎ (nat_lt 0 limit ≡ false)
        by (inl some) = inl (ap (λ b. b || list_any (writes id) xs) is ∙ some)
        by (inr none) = inr none

cut_room : (old new : AdmissionTables) → Marks old new → (id : ObjectId) → room_in old id ≡ false → (wrote_one (drop old.marked old.admitted.entries) id ≡ true) ⊎ (room_in new id ≡ false)
cut_room old new m id full = go old.writers refl full
  where
    nothing_since : (es : List (Digest × AdmittedCertificate)) → drop (length es) (map admitted_as es) ≡ []
    nothing_since [] = refl
    nothing_since (e ∷ es) = nothing_since es

    dropped : (es : List (Digest × AdmittedCertificate)) (n : ℕ) → drop n (map admitted_as es) ≡ map admitted_as (drop n es)
    dropped [] zero = refl
    dropped [] (suc n) = refl
    dropped (e ∷ es) zero = refl
    dropped (e ∷ es) (suc n) = dropped es n

    since : (n : ℕ) → new.writers ≡ Some n → nat_lt 0 n ≡ false → room_in new id ≡ false
    since n limit none =
        ap (λ (w : Option ℕ). has_room w (admission_of new) id) limit
        ∙ ap (λ e. nat_lt (count_by (writes id) (drop new.marked (map admitted_as e.entries))) n) m.admitted
        ∙ ap (λ k. nat_lt (count_by (writes id) (drop k (map admitted_as old.admitted.entries))) n) m.marked
        ∙ ap (λ (xs : List Admitted). nat_lt (count_by (writes id) xs) n) (nothing_since old.admitted.entries)
        ∙ none

    go : (w : Option ℕ) → old.writers ≡ w → has_room w (admission_of old) id ≡ false → (wrote_one (drop old.marked old.admitted.entries) id ≡ true) ⊎ (room_in new id ≡ false)
    go None is f = absurd (cc)
    go (Some n) is f = by (fewer n id (since_mark (admission_of old)) f)
      where
        by : (list_any (writes id) (since_mark (admission_of old)) ≡ true) ⊎ (nat_lt 0 n ≡ false) → (wrote_one (drop old.marked old.admitted.entries) id ≡ true) ⊎ (room_in new id ≡ false)
        by (inl wrote) = inl (ap (list_any (writes id)) (sym (dropped old.admitted.entries old.marked)) ∙ wrote)
        by (inr none) = inr (since n (m.writers ∙ is) none)

-- the queues of what was written since the last cut are due
pub cut_filed : (old new : AdmissionTables) (w : PendingIndex) → Marks old new → IsFiledIn old w → IsFiled new.rows.items w (admits_in new) (room_in new) (wrote_one (drop old.marked new.admitted.entries))
cut_filed old new w m filed =
    subst (λ (rs : List (Option PendingCertificate)). IsFiled rs w (admits_in new) (room_in new) (wrote_one (drop old.marked new.admitted.entries))) (sym (ap (λ v. v.items) m.rows))
    (filed_as old.rows.items w (admits_in old) (admits_in new) (room_in old) (room_in new) none_open (wrote_one (drop old.marked new.admitted.entries))
    (λ tx off. ap (λ e. is_admitted (map admitted_as e.entries) tx) m.admitted ∙ off)
    (λ id full. by id (cut_room old new m id full))
    (λ id e. absurd (clash (sym e))) filed)
  where
    by : (id : ObjectId) → (wrote_one (drop old.marked old.admitted.entries) id ≡ true) ⊎ (room_in new id ≡ false) → (wrote_one (drop old.marked new.admitted.entries) id ≡ true) ⊎ (room_in new id ≡ false)
    by id (inl wrote) = inl (ap (λ e. wrote_one (drop old.marked e.entries) id) m.admitted ∙ wrote)
    by id (inr full) = inr full

-- before the first entry
pub nothing_filed : (b : AdmissionTables) (w : PendingIndex) → b.rows.items ≡ [] → IsFiledIn b w
nothing_filed b w none = record { at = λ whole q x here. absurd (no q x (ap (λ rows. row_at rows q) (sym none) ∙ here)) }
  where
    no : (q : ℕ) (x : PendingCertificate) → row_at [] q ≡ Some x → ⊥
    no zero x f = cc
    no (suc q) x f = cc
