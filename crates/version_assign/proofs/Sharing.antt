-- Admission over the objects of an opening that are shared is admission over all of them.
use Rattle.std.proofs.Common.{◌≡◌, ℕ, zero, suc, Bool, true, false, cond, not, ◌||◌, List, [], ◌∷◌, ◌++◌, Option, Some, None, length, map, refl, ap, sym, subst, ◌∙◌}
use Rattle.std.specs.Prelude.{filter, filter_map, find, fold, nat_le, option_map}
use Rattle.std.specs.List.{list_any}
use Rattle.digest_core.specs.declared.Digest.{Digest}
use Rattle.chain_types.specs.declared.objects.Object.{Object}
use Rattle.chain_types.specs.declared.objects.ObjectId.{ObjectId}
use Rattle.chain_types.specs.declared.objects.Producer.TheVariants as producers
use Rattle.chain_types.specs.declared.transactions.Input.{Input}
use Rattle.chain_types.specs.declared.transactions.Input.TheVariants as inputs
use Rattle.chain_types.specs.Digests.{lamport_version}
use Rattle.chain_types.specs.Equal.{id_eq}
use Rattle.chain_messages.specs.declared.messages.Certificate.{Certificate}
use Rattle.protocol_spec.specs.declared.answers.Assigned.{Assigned}
use Rattle.protocol_spec.specs.declared.answers.Held.{Held}
use Rattle.protocol_spec.proofs.Equality.{id_same, id_turned}
use Rattle.protocol_spec.proofs.ListLemmas.{each_push}
use Rattle.protocol_spec.proofs.Truth.{or_false}
use Rattle.protocol_spec.specs.Chain.Certificates.{Rules}
use Rattle.protocol_spec.specs.Chain.Keys.{is_shared, objects_of, version_limit}
use Rattle.protocol_spec.specs.Chain.Words.{Each, first_of, first_some, last_where, repeats, where_true}
use Rattle.protocol_spec.specs.Member.Admission.{Admission, Admitted, Standing, admit, assigned_to, assignment, assignments, beginning, beginning_by, cert_of, current, entered, is_dropped, is_free, is_shared_object, joined_inputs, lacks_shared, not_of, opening_object, passed_mark, since_mark, standing_after, standing_or, take_free, taken, taken_as, taken_next, taken_version, version_at_admission, version_in, writes}
use Rattle.protocol_spec.specs.Member.Sequence.{Sequence, What, commits, counted_as, counts, cut_of, ends_with_member, ignores, nothing_seen, numbered, saw, seen, takes, what_of, with_entry, with_what}
use Rattle.version_assign.specs.Calls.{id_of, is_shared_one}
use Rattle.version_assign.specs.Sharing.{HasShared, IsServed, KeepsShared, ServesAs, SharedServe, if_shared, lacks_any_shared, shared_of}

-- ---- the objects that are found

absent : (os : List Object) (id : ObjectId) → list_any (id_eq id) (map id_of os) ≡ false → opening_object (shared_of os) id ≡ None
absent [] id away = refl
absent (o ∷ os) id away = go (is_shared_one o) (or_false (id_eq id o.id) (list_any (id_eq id) (map id_of os)) away) (absent os id)
  where
    go : (b : Bool) → (id_eq id o.id ≡ false) × (list_any (id_eq id) (map id_of os) ≡ false) → (list_any (id_eq id) (map id_of os) ≡ false → opening_object (shared_of os) id ≡ None)
        → opening_object (cond b (o ∷ shared_of os) (shared_of os)) id ≡ None
    go true off more = ap (λ c. cond c (Some o) (opening_object (shared_of os) id)) (id_turned o.id id ∙ off.0) ∙ more off.1
    go false off more = more off.1

found_in : (os : List Object) (id : ObjectId) → repeats id_eq (map id_of os) ≡ false → opening_object (shared_of os) id ≡ if_shared (opening_object os id)
found_in [] id once = refl
found_in (o ∷ os) id once = go (id_eq o.id id) refl (is_shared_one o) refl (or_false (list_any (id_eq o.id) (map id_of os)) (repeats id_eq (map id_of os)) once) (found_in os id)
  where
    go : (b : Bool) → id_eq o.id id ≡ b → (s : Bool) → is_shared_one o ≡ s → (list_any (id_eq o.id) (map id_of os) ≡ false) × (repeats id_eq (map id_of os) ≡ false)
        → (repeats id_eq (map id_of os) ≡ false → opening_object (shared_of os) id ≡ if_shared (opening_object os id))
        → opening_object (cond s (o ∷ shared_of os) (shared_of os)) id ≡ if_shared (cond b (Some o) (opening_object os id))
    go true here true is off more = ap (λ c. cond c (Some o) (opening_object (shared_of os) id)) here ∙ sym (ap (λ c. cond c (Some o) None) is)
    go true here false is off more =
        absent os id (ap (λ (i : ObjectId). list_any (id_eq i) (map id_of os)) (sym (id_same o.id id here)) ∙ off.0) ∙ sym (ap (λ c. cond c (Some o) None) is)
    go false here true is off more = ap (λ c. cond c (Some o) (opening_object (shared_of os) id)) here ∙ more off.1
    go false here false is off more = more off.1

still_lacks : (o : Option Object) → not (is_shared_object (if_shared o)) ≡ not (is_shared_object o)
still_lacks None = refl
still_lacks (Some o) = go (is_shared o.owner) refl
  where
    go : (b : Bool) → is_shared o.owner ≡ b → not (is_shared_object (cond b (Some o) None)) ≡ not (is_shared o.owner)
    go true is = refl
    go false is = ap not (sym is)

stays : (o : Option Object) → not (is_shared_object o) ≡ false → if_shared o ≡ o
stays None off = absurd (cc)
stays (Some o) off = go (is_shared o.owner) off
  where
    go : (b : Bool) → not b ≡ false → cond b (Some o) None ≡ Some o
    go true off = refl
    go false off = absurd (cc)

or_true : (b : Bool) → (b || true) ≡ true
or_true true = refl
or_true false = refl

-- the shared objects of an opening, whose objects have distinct ids, are found in it
pub shared_keeps : (opening : List Object) → repeats id_eq (map id_of opening) ≡ false → KeepsShared (shared_of opening) opening
shared_keeps opening once id = found_in opening id once

module _ (shared opening : List Object) (found : KeepsShared shared opening) where
  -- ---- what is lacking, and where objects begin

  one_lacks : (j : Input × Option Digest) → lacks_shared shared j ≡ lacks_shared opening j
  one_lacks (inputs.Pure bytes, o) = refl
  one_lacks (inputs.Owned r, o) = refl
  one_lacks (inputs.Immutable r, o) = refl
  one_lacks (inputs.Shared y n m, None) = ap (λ o. not (is_shared_object o)) (found y) ∙ still_lacks (opening_object opening y)
  one_lacks (inputs.Shared y n m, Some origin) = refl

  all_lack : (c : Certificate) → lacks_any_shared shared c ≡ lacks_any_shared opening c
  all_lack c = ap (λ (test : (Input × Option Digest) → Bool). list_any test (joined_inputs c)) (λ k j. one_lacks j k)

  one_begins : (id : ObjectId) (j : Input × Option Digest) → lacks_shared opening j ≡ false → beginning shared id j ≡ beginning opening id j
  one_begins id (inputs.Pure bytes, o) off = refl
  one_begins id (inputs.Owned r, o) off = refl
  one_begins id (inputs.Immutable r, o) off = refl
  one_begins id (inputs.Shared y n m, None) off =
      ap (λ o. where_true (id_eq y id) (version_in o, producers.Opening)) (found y ∙ stays (opening_object opening y) off)
  one_begins id (inputs.Shared y n m, Some origin) off = refl

  all_begin : (id : ObjectId) (js : List (Input × Option Digest)) → list_any (lacks_shared opening) js ≡ false → first_of (beginning shared id) js ≡ first_of (beginning opening id) js
  all_begin id [] off = refl
  all_begin id (j ∷ js) off =
      let both : (lacks_shared opening j ≡ false) × (list_any (lacks_shared opening) js ≡ false) = or_false (lacks_shared opening j) (list_any (lacks_shared opening) js) off in
      ap (λ o. first_some (o ∷ first_of (beginning shared id) js ∷ [])) (one_begins id j both.0)
      ∙ ap (λ o. first_some (beginning opening id j ∷ o ∷ [])) (all_begin id js both.1)

  behind : (id : ObjectId) (earlier : List Admitted) (c : Certificate) → Each (IsServed opening) earlier → lacks_any_shared opening c ≡ false
      → first_of (beginning_by shared id) (map cert_of earlier ++ c ∷ []) ≡ first_of (beginning_by opening id) (map cert_of earlier ++ c ∷ [])
  behind id [] c all off = ap (λ (o : Option Standing). first_some (o ∷ None ∷ [])) (all_begin id (joined_inputs c) off)
  behind id (a ∷ earlier) c all off =
      ap (λ o. first_some (o ∷ first_of (beginning_by shared id) (map cert_of earlier ++ c ∷ []) ∷ [])) (all_begin id (joined_inputs a.cert) all.0)
      ∙ ap (λ o. first_some (beginning_by opening id a.cert ∷ o ∷ [])) (behind id earlier c all.1 off)

  -- ---- one certificate

  module _ (earlier : List Admitted) (c : Certificate) (all : Each (IsServed opening) earlier) (off : lacks_any_shared opening c ≡ false) where
    same_current : (id : ObjectId) → current shared earlier c id ≡ current opening earlier c id
    unfolding current
    same_current id = ap (λ o. standing_or (first_some (option_map standing_after (last_where (writes id) earlier) ∷ o ∷ []))) (behind id earlier c all off)

    same_assignment : (i : Input) → assignment shared earlier c i ≡ assignment opening earlier c i
    same_assignment (inputs.Pure bytes) = refl
    same_assignment (inputs.Owned r) = refl
    same_assignment (inputs.Immutable r) = refl
    same_assignment (inputs.Shared id initial mutable) = ap (λ (s : Standing). Some (assigned_to s id mutable)) (same_current id)

    same_assignments : assignments shared earlier c ≡ assignments opening earlier c
    same_assignments = ap (λ (f : Input → Option Assigned). filter_map f (objects_of c.tx)) (λ k i. same_assignment i k)

    same_taken : (i : Input) → taken_version shared earlier c i ≡ taken_version opening earlier c i
    same_taken (inputs.Pure bytes) = refl
    same_taken (inputs.Owned r) = refl
    same_taken (inputs.Immutable r) = refl
    same_taken (inputs.Shared id initial mutable) = ap (λ (s : Standing). s.0) (same_current id)

    same_version : version_at_admission shared earlier c ≡ version_at_admission opening earlier c
    same_version = ap (λ (f : Input → ℕ). lamport_version (map f (objects_of c.tx))) (λ k i. same_taken i k)

    same_drop : is_dropped shared earlier c ≡ is_dropped opening earlier c
    same_drop = ap (λ v. nat_le version_limit v || lacks_any_shared shared c) same_version ∙ ap (λ b. nat_le version_limit (version_at_admission opening earlier c) || b) (all_lack c)

  same_admit : (earlier : List Admitted) (h : Held) → Each (IsServed opening) earlier → lacks_any_shared opening h.cert ≡ false → admit shared earlier h ≡ admit opening earlier h
  unfolding admit
  same_admit earlier h all off =
      ap (λ v. let x : Admitted = record { digest = h.digest; cert = h.cert; version = v; assigned = assignments shared earlier h.cert } in x) (same_version earlier h.cert all off)
      ∙ ap (λ xs. let x : Admitted = record { digest = h.digest; cert = h.cert; version = version_at_admission opening earlier h.cert; assigned = xs } in x) (same_assignments earlier h.cert all off)

  one_served : (a : Admission) (h : Held) → lacks_any_shared opening h.cert ≡ false → IsServed opening (admit opening a.admitted h)
  unfolding admit
  one_served a h off = off

  abbrev Same : Admission → Admission → Type 0
  Same x y = (x ≡ y) × HasShared opening y

  either : (a : Admission) (h : Held) → HasShared opening a → lacks_any_shared opening h.cert ≡ false → (b : Bool) → Same (taken_as b shared a h) (taken_as b opening a h)
  either a h all off true = (refl, all)
  either a h all off false = (
    ap (λ (x : Admitted). let y : Admission = record a { admitted = a.admitted ++ x ∷ []; pending = filter (not_of h) a.pending } in y) (same_admit a.admitted h all off),
    each_push (IsServed opening) a.admitted (admit opening a.admitted h) all (one_served a h off),
  )

  one_taken : (a : Admission) (h : Held) → HasShared opening a → Same (taken shared a h) (taken opening a h)
  one_taken a h all = go (lacks_any_shared opening h.cert) refl
    where
      lacking : (os : List Object) → lacks_any_shared os h.cert ≡ true → is_dropped os a.admitted h.cert ≡ true
      lacking os is = ap (λ b. nat_le version_limit (version_at_admission os a.admitted h.cert) || b) is ∙ or_true (nat_le version_limit (version_at_admission os a.admitted h.cert))

      go : (b : Bool) → lacks_any_shared opening h.cert ≡ b → Same (taken shared a h) (taken opening a h)
      go true is = (
        ap (λ b. taken_as b shared a h) (lacking shared (all_lack h.cert ∙ is)) ∙ sym (ap (λ b. taken_as b opening a h) (lacking opening is)),
        subst (λ b. HasShared opening (taken_as b opening a h)) (sym (lacking opening is)) all,
      )
      go false is = (
        ap (λ b. taken_as b shared a h) (same_drop a.admitted h.cert all is) ∙ (either a h all is (is_dropped opening a.admitted h.cert)).0,
        (either a h all is (is_dropped opening a.admitted h.cert)).1,
      )

  -- ---- one after the other

  all_taken : (writers : Option ℕ) (n : ℕ) (a : Admission) → HasShared opening a → Same (take_free writers shared n a) (take_free writers opening n a)
  all_taken writers zero a all = (refl, all)
  all_taken writers (suc n) a all = go (all_taken writers n) (find (is_free writers a) a.pending)
    where
      go : ((b : Admission) → HasShared opening b → Same (take_free writers shared n b) (take_free writers opening n b)) → (o : Option Held)
          → Same (taken_next (take_free writers shared n) shared a o) (taken_next (take_free writers opening n) opening a o)
      go more None = (refl, all)
      go more (Some h) =
          let one : Same (taken shared a h) (taken opening a h) = one_taken a h all in
          let then : Same (take_free writers shared n (taken opening a h)) (take_free writers opening n (taken opening a h)) = more (taken opening a h) one.1 in (
            ap (take_free writers shared n) one.0 ∙ then.0,
            then.1,
          )

  same_entered : (writers : Option ℕ) (a : Admission) (h : Held) → HasShared opening a → Same (entered writers shared a h) (entered writers opening a h)
  unfolding entered
  same_entered writers a h all = all_taken writers (length (a.pending ++ h ∷ [])) (record a { pending = a.pending ++ h ∷ [] }) all

  same_passed : (writers : Option ℕ) (a : Admission) → HasShared opening a → Same (passed_mark writers shared a) (passed_mark writers opening a)
  unfolding passed_mark
  same_passed writers a all = all_taken writers (length a.pending) (record a { marked = length a.admitted }) all

  -- ---- entries

  abbrev Alike : Sequence → Sequence → Type 0
  Alike x y = (x ≡ y) × HasShared opening y.admission

  counted : (b : Bool) (q : Sequence) (member : ℕ) → HasShared opening q.admission → HasShared opening (counted_as b q member).admission
  counted true q member all = all
  counted false q member all = all

  same_what : (r : Rules) (q : Sequence) (what : What) → HasShared opening q.admission → Alike (with_what r shared q what) (with_what r opening q what)
  same_what r q (takes h) all =
      let one : Same (entered r.writers shared q.admission h) (entered r.writers opening q.admission h) = same_entered r.writers q.admission h all in
      (ap (λ (a : Admission). let x : Sequence = record q { admission = a } in x) one.0, one.1)
  same_what r q commits all =
      let one : Same (passed_mark r.writers shared q.admission) (passed_mark r.writers opening q.admission) = same_passed r.writers q.admission all in
      (ap (λ (a : Admission). let x : Sequence = record q { admission = a; cuts = q.cuts ++ cut_of (since_mark q.admission) } in x) one.0, one.1)
  same_what r q (counts member) all = (refl, counted (ends_with_member r q member) q member all)
  same_what r q (ignores cause) all = (refl, all)

  same_saw : (r : Rules) (epoch : ℕ) (q : Sequence) (bytes : List ℕ) → HasShared opening q.admission → Alike (saw r shared epoch q bytes) (saw r opening epoch q bytes)
  unfolding saw with_entry
  same_saw r epoch q bytes all = go q.ended
    where
      one : Alike (with_what r shared q (what_of r epoch q bytes)) (with_what r opening q (what_of r epoch q bytes))
      one = same_what r q (what_of r epoch q bytes) all

      go : (b : Bool) → Alike (cond b q (with_entry r shared q (what_of r epoch q bytes))) (cond b q (with_entry r opening q (what_of r epoch q bytes)))
      go true = (refl, all)
      go false = (ap numbered one.0, one.1)

  same_fold : (r : Rules) (epoch : ℕ) (entries : List (List ℕ)) (q : Sequence) → HasShared opening q.admission → Alike (fold (saw r shared epoch) q entries) (fold (saw r opening epoch) q entries)
  same_fold r epoch [] q all = (refl, all)
  same_fold r epoch (bytes ∷ entries) q all =
      let one : Alike (saw r shared epoch q bytes) (saw r opening epoch q bytes) = same_saw r epoch q bytes all in
      let then : Alike (fold (saw r shared epoch) (saw r opening epoch q bytes) entries) (fold (saw r opening epoch) (saw r opening epoch q bytes) entries) = same_fold r epoch entries (saw r opening epoch q bytes) one.1 in
      (ap (λ (x : Sequence). fold (saw r shared epoch) x entries) one.0 ∙ then.0, then.1)

  same_seen : (r : Rules) (epoch : ℕ) (entries : List (List ℕ)) → Alike (seen r shared epoch entries) (seen r opening epoch entries)
  unfolding seen
  same_seen r epoch entries = same_fold r epoch entries nothing_seen tt

pub kept_serve : (kept opening : List Object) → KeepsShared kept opening → ServesAs kept opening
kept_serve kept opening found = record { entered = same_entered kept opening found; passed = same_passed kept opening found }

pub shared_serve : SharedServe
shared_serve opening once =
    let found : KeepsShared (shared_of opening) opening = shared_keeps opening once in
    record {
      entered = same_entered (shared_of opening) opening found;
      passed = same_passed (shared_of opening) opening found;
      saw = same_saw (shared_of opening) opening found;
      seen = same_seen (shared_of opening) opening found;
    }
