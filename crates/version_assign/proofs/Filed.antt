-- Where each certificate that waits is filed, as the tables move.
use Rattle.std.proofs.Common.{◌≡◌, ℕ, zero, suc, Bool, true, false, not, ◌&&◌, ◌||◌, List, [], ◌∷◌, Option, Some, None, is_some, length, refl, ap, sym, subst, ◌∙◌, inl, inr, ◌-◌, ◌<◌, ◌≤◌, arith, drop, take, add-one}
use Rattle.std.proofs.Math.ListN.{get_or}
use Rattle.std.specs.Prelude.{◌⊎◌, find}
use Rattle.std.specs.List.{list_all}
use Rattle.std.specs.Ordering.{nat_cmp}
use Rattle.std.specs.BTreeSet.{BTreeSet, contains}
use Rattle.digest_core.specs.declared.Digest.{Digest}
use Rattle.chain_types.specs.declared.objects.ObjectId.{ObjectId}
use Rattle.chain_types.specs.Equal.{id_eq}
use Rattle.protocol_spec.specs.declared.answers.Held.{Held}
use Rattle.protocol_spec.proofs.Equality.{id_same, id_self}
use Rattle.protocol_spec.proofs.ListLemmas.{tail_is}
use Rattle.protocol_spec.proofs.Truth.{or_right, or_left, or_true}
use Rattle.protocol_spec.specs.Chain.Words.{Has, first_of, first_some, where_true}
use Rattle.protocol_spec.specs.Chain.Tests.{has_id}
use Rattle.protocol_spec.specs.Member.Admission.{Admission, full_id, has_room, is_admitted, is_free, is_origin_admitted, missing_origin, mutable_ids}
use Rattle.version_assign.specs.declared.book.PendingCertificate.{PendingCertificate}
use Rattle.version_assign.specs.declared.waits.PendingIndex.{PendingIndex}
use Rattle.version_assign.specs.Books.{held_in, pending_in, row_at}
use Rattle.version_assign.specs.Calls.{Admitting}
use Rattle.version_assign.specs.Steps.{is_free_one}
use Rattle.version_assign.specs.Waiting.{Grows, HasNext, IsFiled, Opens, Passes, PopsPlace, Reason, Turn, TurnsOn, has_turn, is_awake, is_full, is_open, is_queued, is_under, may_be_free, none_open, or_one_of, stands_behind, writes_at, writes_row}
use Rattle.version_assign.proofs.Freeing.{alone, free_is, place_found, place_passed}
use Rattle.version_assign.proofs.Moving.{all_at}
use Rattle.version_assign.proofs.Rows.{clash}

-- ---- what is written

pub written_is : (ids : List ObjectId) (id : ObjectId) → or_one_of ids none_open id ≡ has_id ids id
written_is ids id = or_none (has_id ids id)
  where
    or_none : (b : Bool) → (b || false) ≡ b
    or_none true = refl
    or_none false = refl

-- ---- one step after the other

module _ (rows : List (Option PendingCertificate)) (admits : Digest → Bool) (room : ObjectId → Bool) where
  turn_grows : (due : ObjectId → Bool) (old new : PendingIndex) → ((p : ℕ) → is_awake old p ≡ true → is_awake new p ≡ true) → (id : ObjectId) (q : ℕ) → Turn rows old room due id q → Turn rows new room due id q
  turn_grows due old new more id q (is_full full) = is_full full
  turn_grows due old new more id q (is_open open_) = is_open open_
  turn_grows due old new more id q (has_turn p awake before writes) = has_turn p (more p awake) before writes

  pub filed_grows : (due : ObjectId → Bool) (old new : PendingIndex) → Grows old new → IsFiled rows old admits room due → IsFiled rows new admits room due
  filed_grows due old new g filed = record { at = λ whole q r here. go q r (filed.at (g.whole whole) q r here) }
    where
      go : (q : ℕ) (r : PendingCertificate) → Reason rows old admits room due q r.held.cert → Reason rows new admits room due q r.held.cert
      go q r (may_be_free awake) = may_be_free (g.awake q awake)
      go q r (stands_behind tx has off under) = stands_behind tx has off (g.behind tx q under)
      go q r (is_queued id named under turn) = is_queued id named (g.queues id.0 q under) (turn_grows due old new g.awake id q turn)

  -- the next in a queue may be free
  pub filed_turns : (due : ObjectId → Bool) (id : ObjectId) (old new : PendingIndex) → TurnsOn rows old new id → IsFiled rows old admits room (λ x. id_eq x id || due x) → IsFiled rows new admits room due
  filed_turns due id old new t filed = record { at = λ whole q r here. go whole q r here (filed.at (t.whole whole) q r here) }
    where
      taken : (x : ObjectId) (q : ℕ) → HasNext rows new id q → id_eq x id ≡ true → Turn rows new room due x q
      taken x q n same = has_turn n.place n.awake n.before (ap (writes_at rows n.place) (id_same x id same) ∙ n.writes)

      turn_of : new.whole ≡ true → (x : ObjectId) (q : ℕ) → is_under new.queues.entries x.0 q ≡ true → Turn rows old room (λ y. id_eq y id || due y) x q → Turn rows new room due x q
      turn_of whole x q under (is_full full) = is_full full
      turn_of whole x q under (has_turn p awake before writes) = has_turn p (t.awake p awake) before writes
      turn_of whole x q under (is_open open_) = by (or_true (id_eq x id) (due x) open_)
        where
          by : (id_eq x id ≡ true) ⊎ (due x ≡ true) → Turn rows new room due x q
          by (inl same) = taken x q (t.next whole q (subst (λ (y : ObjectId). is_under new.queues.entries y.0 q ≡ true) (id_same x id same) under)) same
          by (inr more) = is_open more

      queued : new.whole ≡ true → (x : ObjectId) (q : ℕ) (r : PendingCertificate) → row_at rows q ≡ Some r → has_id (mutable_ids r.held.cert) x ≡ true → Turn rows old room (λ y. id_eq y id || due y) x q
          → (is_under new.queues.entries x.0 q ≡ true) ⊎ ((id.0 ≡ x.0) × (writes_at rows q id ≡ true → is_awake new q ≡ true)) → Reason rows new admits room due q r.held.cert
      queued whole x q r here named turn (inl under) = is_queued x named under (turn_of whole x q under turn)
      queued whole x q r here named turn (inr gone) = may_be_free (gone.1 (ap (λ o. writes_row o id) here ∙ ap (has_id (mutable_ids r.held.cert)) (ap (λ (d : Digest). let y : ObjectId = record { 0 = d } in y) gone.0) ∙ named))

      go : new.whole ≡ true → (q : ℕ) (r : PendingCertificate) → row_at rows q ≡ Some r → Reason rows old admits room (λ y. id_eq y id || due y) q r.held.cert → Reason rows new admits room due q r.held.cert
      go whole q r here (may_be_free awake) = may_be_free (t.awake q awake)
      go whole q r here (stands_behind tx has off under) = stands_behind tx has off (t.behind tx q under)
      go whole q r here (is_queued x named under turn) = queued whole x q r here named turn (t.queues whole x.0 q under)

  -- what is due may be another word
  pub filed_due : (due other : ObjectId → Bool) (w : PendingIndex) → ((x : ObjectId) → due x ≡ true → (other x ≡ true) ⊎ (room x ≡ false)) → IsFiled rows w admits room due → IsFiled rows w admits room other
  filed_due due other w more filed = record { at = λ whole q r here. go q r (filed.at whole q r here) }
    where
      turn_of : (x : ObjectId) (q : ℕ) → Turn rows w room due x q → Turn rows w room other x q
      turn_of x q (is_full full) = is_full full
      turn_of x q (has_turn p awake before writes) = has_turn p awake before writes
      turn_of x q (is_open open_) = by (more x open_)
        where
          by : (other x ≡ true) ⊎ (room x ≡ false) → Turn rows w room other x q
          by (inl o) = is_open o
          by (inr full) = is_full full

      go : (q : ℕ) (r : PendingCertificate) → Reason rows w admits room due q r.held.cert → Reason rows w admits room other q r.held.cert
      go q r (may_be_free awake) = may_be_free awake
      go q r (stands_behind tx has off under) = stands_behind tx has off under
      go q r (is_queued x named under turn) = is_queued x named under (turn_of x q turn)

-- ---- queues are opened

-- what is due with this object
due_with : (id : ObjectId) (rest : List ObjectId) (due : ObjectId → Bool) (x : ObjectId) → or_one_of (id ∷ rest) due x ≡ true → (id_eq x id || or_one_of rest due x) ≡ true
due_with id rest due x e = regrouped (id_eq x id) (has_id rest x) (due x) e
  where
    regrouped : (a b c : Bool) → ((a || b) || c) ≡ true → (a || (b || c)) ≡ true
    regrouped true b c e = refl
    regrouped false b c e = e

-- the object has room, and its queue was opened
pub opened_room : (rows : List (Option PendingCertificate)) (room : ObjectId → Bool) (old new : PendingIndex) (id : ObjectId) (rest : List ObjectId) → TurnsOn rows old new id → Opens rows room old new (id ∷ rest) rest
opened_room rows room old new id rest t = record {
  at = λ admits due filed.
      filed_turns rows admits room (or_one_of rest due) id old new t
      (filed_due rows admits room (or_one_of (id ∷ rest) due) (λ x. id_eq x id || or_one_of rest due x) old (λ x e. inl (due_with id rest due x e)) filed);
}

-- it has its writers
pub opened_full : (rows : List (Option PendingCertificate)) (room : ObjectId → Bool) (w : PendingIndex) (id : ObjectId) (rest : List ObjectId) → room id ≡ false → Opens rows room w w (id ∷ rest) rest
opened_full rows room w id rest full = record {
  at = λ admits due filed.
      filed_due rows admits room (or_one_of (id ∷ rest) due) (or_one_of rest due) w (λ x e. go due x (id_eq x id) refl (due_with id rest due x e)) filed;
}
  where
    go : (due : ObjectId → Bool) (x : ObjectId) (b : Bool) → id_eq x id ≡ b → (b || or_one_of rest due x) ≡ true → (or_one_of rest due x ≡ true) ⊎ (room x ≡ false)
    go due x true same e = inr (ap room (id_same x id same) ∙ full)
    go due x false same e = inl e

pub opens_then : (rows : List (Option PendingCertificate)) (room : ObjectId → Bool) (a b c : PendingIndex) (all some rest : List ObjectId) → Opens rows room a b all some → Opens rows room b c some rest → Opens rows room a c all rest
opens_then rows room a b c all some rest x y = record { at = λ admits due filed. y.at admits due (x.at admits due filed) }

-- ---- one that is not free

pub missing_has : (a : Admission) (os : List (Option Digest)) (tx : Digest) → first_of (missing_origin a) os ≡ Some tx → Has os (Some tx) × (is_admitted a.admitted tx ≡ false)
missing_has a [] tx e = absurd (cc)
missing_has a (None ∷ os) tx e = let m : Has os (Some tx) × (is_admitted a.admitted tx ≡ false) = missing_has a os tx (sym (alone (first_of (missing_origin a) os)) ∙ e) in (inr m.0, m.1)
missing_has a (Some d ∷ os) tx e = go (is_admitted a.admitted d) refl e (missing_has a os tx)
  where
    same : Some d ≡ Some tx → d ≡ tx
    same f = cc

    go : (b : Bool) → is_admitted a.admitted d ≡ b → first_some (where_true (not b) d ∷ first_of (missing_origin a) os ∷ []) ≡ Some tx → (first_of (missing_origin a) os ≡ Some tx → Has os (Some tx) × (is_admitted a.admitted tx ≡ false))
        → Has (Some d ∷ os) (Some tx) × (is_admitted a.admitted tx ≡ false)
    go true is f more = let m : Has os (Some tx) × (is_admitted a.admitted tx ≡ false) = more (sym (alone (first_of (missing_origin a) os)) ∙ f) in (inr m.0, m.1)
    go false is f more = (inl f, ap (is_admitted a.admitted) (sym (same f)) ∙ is)

pub full_has : (writers : Option ℕ) (a : Admission) (ids : List ObjectId) (id : ObjectId) → first_of (full_id writers a) ids ≡ Some id → (has_id ids id ≡ true) × (has_room writers a id ≡ false)
full_has writers a [] id e = absurd (cc)
full_has writers a (x ∷ ids) id e = go (has_room writers a x) refl e (full_has writers a ids id)
  where
    same : Some x ≡ Some id → x ≡ id
    same f = cc

    go : (b : Bool) → has_room writers a x ≡ b → first_some (where_true (not b) x ∷ first_of (full_id writers a) ids ∷ []) ≡ Some id
        → (first_of (full_id writers a) ids ≡ Some id → (has_id ids id ≡ true) × (has_room writers a id ≡ false))
        → ((id_eq id x || has_id ids id) ≡ true) × (has_room writers a id ≡ false)
    go true room f more =
        let m : (has_id ids id ≡ true) × (has_room writers a id ≡ false) = more (sym (alone (first_of (full_id writers a) ids)) ∙ f) in
        (or_right (id_eq id x) (has_id ids id) m.0, m.1)
    go false room f more = (or_left (id_eq id x) (has_id ids id) (ap (id_eq id) (same f) ∙ id_self id), ap (has_room writers a) (sym (same f)) ∙ room)

-- what a filed certificate waits for keeps it from being free
pub origin_holds : (a : Admission) (os : List (Option Digest)) (tx : Digest) → Has os (Some tx) → is_admitted a.admitted tx ≡ false → list_all (is_origin_admitted a) os ≡ false
origin_holds a [] tx has off = absurd has
origin_holds a (o ∷ os) tx (inl is) off = ap (λ b. b && list_all (is_origin_admitted a) os) (ap (is_origin_admitted a) is ∙ off)
origin_holds a (o ∷ os) tx (inr has) off = and_false (is_origin_admitted a o) (list_all (is_origin_admitted a) os) (origin_holds a os tx has off)
  where
    and_false : (b c : Bool) → c ≡ false → (b && c) ≡ false
    and_false true c e = e
    and_false false c e = refl

pub room_holds : (room : ObjectId → Bool) (ids : List ObjectId) (id : ObjectId) → has_id ids id ≡ true → room id ≡ false → list_all room ids ≡ false
room_holds room ids id has full = go (list_all room ids) refl
  where
    go : (b : Bool) → list_all room ids ≡ b → list_all room ids ≡ false
    go true all = absurd (clash (sym (all_at room id ids all has) ∙ full))
    go false none = none

-- ---- the first free

module _ (s : Admitting) (rows : List (Option PendingCertificate)) (w : PendingIndex) (filed : IsFiled rows w (is_admitted s.admission.admitted) (has_room s.writers s.admission) none_open) (whole : w.whole ≡ true) where
  not_free : (q : ℕ) (r : PendingCertificate) → row_at rows q ≡ Some r → ((p : ℕ) → is_awake w p ≡ true → q < p) → is_free s.writers s.admission r.held ≡ false
  not_free q r here later = go (filed.at whole q r here)
    where
      below : (n : ℕ) → n < n → ⊥
      below n h = absurd (omega (arith, h))

      first_off : (b c : Bool) → b ≡ false → (b && c) ≡ false
      first_off true c e = absurd (cc)
      first_off false c e = refl

      second_off : (b c : Bool) → c ≡ false → (b && c) ≡ false
      second_off true c e = e
      second_off false c e = refl

      held : (id : ObjectId) → has_id (mutable_ids r.held.cert) id ≡ true → Turn rows w (has_room s.writers s.admission) none_open id q → is_free s.writers s.admission r.held ≡ false
      held id named (is_full full) =
          second_off (list_all (is_origin_admitted s.admission) r.held.cert.origins) (list_all (has_room s.writers s.admission) (mutable_ids r.held.cert)) (room_holds (has_room s.writers s.admission) (mutable_ids r.held.cert) id named full)
      held id named (is_open e) = absurd (clash (sym e))
      held id named (has_turn p awake before writes) = let l : q < p = later p awake in let b : p ≤ q = before in absurd (below q (omega arith))

      go : Reason rows w (is_admitted s.admission.admitted) (has_room s.writers s.admission) none_open q r.held.cert → is_free s.writers s.admission r.held ≡ false
      go (may_be_free awake) = absurd (below q (later q awake))
      go (stands_behind tx has off under) =
          first_off (list_all (is_origin_admitted s.admission) r.held.cert.origins) (list_all (has_room s.writers s.admission) (mutable_ids r.held.cert)) (origin_holds s.admission r.held.cert.origins tx has off)
      go (is_queued id named under turn) = held id named turn

  none_at : (q : ℕ) → ((p : ℕ) → is_awake w p ≡ true → q < p) → is_free_one s (held_in (row_at rows q)) ≡ false
  none_at q later = go (row_at rows q) refl
    where
      go : (o : Option PendingCertificate) → row_at rows q ≡ o → is_free_one s (held_in o) ≡ false
      go None here = refl
      go (Some r) here = not_free q r here later

  passed : (n : ℕ) → ((p : ℕ) → is_awake w p ≡ true → n ≤ p) → n ≤ length rows → find (is_free s.writers s.admission) (pending_in (drop n rows)) ≡ find (is_free s.writers s.admission) (pending_in rows)
  passed zero later within = refl
  passed (suc n) later within =
      subst (λ k. find (is_free s.writers s.admission) (pending_in (drop k rows)) ≡ find (is_free s.writers s.admission) (pending_in (drop n rows))) (add-one n)
      (place_passed s rows n (omega arith) (none_at n (λ p awake. let l : suc n ≤ p = later p awake in omega arith)))
      ∙ passed n (λ p awake. let l : suc n ≤ p = later p awake in omega arith) (omega arith)

  -- the first that may be free is free
  pub first_is : (p : ℕ) → ((q : ℕ) → is_awake w q ≡ true → p ≤ q) → is_free_one s (held_in (row_at rows p)) ≡ true → held_in (row_at rows p) ≡ find (is_free s.writers s.admission) (pending_in rows)
  first_is p least free = place_found s rows p free ∙ passed p least (there rows p free)
    where
      there : (xs : List (Option PendingCertificate)) (i : ℕ) → is_free_one s (held_in (row_at xs i)) ≡ true → i ≤ length xs
      there [] zero e = absurd (cc)
      there [] (suc i) e = absurd (cc)
      there (x ∷ xs) zero e = omega arith
      there (x ∷ xs) (suc i) e = let l : i ≤ length xs = there xs i e in omega arith

  -- none may be free
  pub none_is : ((q : ℕ) → is_awake w q ≡ false) → None ≡ find (is_free s.writers s.admission) (pending_in rows)
  none_is none = ap (λ xs. find (is_free s.writers s.admission) (pending_in xs)) (sym (past rows)) ∙ passed (length rows) (λ p awake. absurd (clash (sym awake ∙ none p))) (omega arith)
    where
      past : {A : Type 0} → (xs : List A) → drop (length xs) xs ≡ []
      past [] = refl
      past (x ∷ xs) = past xs

-- ---- answers of the calls

-- the first in a queue that waits and writes the object may be free
pub turned_on : (rows : List (Option PendingCertificate)) (old at mid new : PendingIndex) (id : ObjectId) (place : ℕ) → Passes rows old at id → mid.whole ≡ at.whole → mid.awake ≡ at.awake → mid.behind ≡ at.behind
    → PopsPlace at.queues.entries mid.queues.entries id.0 place → writes_at rows place id ≡ true → Grows mid new → new.queues ≡ mid.queues → (new.whole ≡ true → is_awake new place ≡ true) → TurnsOn rows old new id
turned_on rows old at mid new id place passes whole awake behind pops writes grows queues woken = record {
  whole = λ w. passes.whole (sym whole ∙ grows.whole w);
  awake = λ p h. grows.awake p (ap (λ (s : BTreeSet ℕ). contains nat_cmp s p) awake ∙ passes.awake p h);
  behind = λ n p h. grows.behind n p (ap (λ m. is_under m.entries n p) behind ∙ passes.behind n p h);
  queues = λ w n q h. by w n q (passes.queues n q h);
  next = λ w q h. record { place = place; awake = woken w; before = pops.least q (ap (λ m. is_under m.entries id.0 q) (sym queues) ∙ h); writes = writes };
}
  where
    by : new.whole ≡ true → (n : Digest) (q : ℕ) → (is_under at.queues.entries n q ≡ true) ⊎ ((id.0 ≡ n) × (writes_at rows q id ≡ false))
        → (is_under new.queues.entries n q ≡ true) ⊎ ((id.0 ≡ n) × (writes_at rows q id ≡ true → is_awake new q ≡ true))
    by w n q (inr gone) = inr (gone.0, λ e. absurd (clash (sym e ∙ gone.1)))
    by w n q (inl under) = after (pops.kept n q under)
      where
        after : (is_under mid.queues.entries n q ≡ true) ⊎ ((id.0 ≡ n) × (q ≡ place)) → (is_under new.queues.entries n q ≡ true) ⊎ ((id.0 ≡ n) × (writes_at rows q id ≡ true → is_awake new q ≡ true))
        after (inl u) = inl (grows.queues n q u)
        after (inr p) = inr (p.0, λ e. ap (is_awake new) p.1 ∙ woken w)

pub opens_first : (rows : List (Option PendingCertificate)) (room : ObjectId → Bool) (a b c : PendingIndex) (all rest : List ObjectId) (other : ObjectId) → 1 ≤ length rest → Opens rows room a b all rest → ((more : List ObjectId) → Opens rows room b c (get_or rest 0 other ∷ more) more)
    → Opens rows room a c all (take (length rest - 1) (drop 1 rest))
opens_first rows room a b c all [] other some done one = absurd (omega (arith, some))
opens_first rows room a b c all (y ∷ ys) other some done one =
    subst (λ (more : List ObjectId). Opens rows room a c all more) (sym (tail_is y ys))
    (opens_then rows room a b c all (y ∷ ys) ys done (one ys))

abbrev not_some : {B : Type 0} → Option B → Bool
not_some o = not (is_some o)

-- if nothing is missing and no object is full, it is free
pub must_wait : {A : Type 0} → (writers : Option ℕ) (a : Admission) (h : Held) → first_of (missing_origin a) h.cert.origins ≡ None → first_of (full_id writers a) (mutable_ids h.cert) ≡ None → is_free writers a h ≡ false → A
must_wait writers a h missing full off =
    absurd (clash (sym (ap not_some full) ∙ ap (λ (b : Bool). b && not_some (first_of (full_id writers a) (mutable_ids h.cert))) (sym (ap not_some missing)) ∙ free_is writers a h ∙ off))
