-- A transaction gives the same wherever it is executed.
use Rattle.std.proofs.Common.{inl, inr, refl, sym, subst, ap, ◌∙◌, append_assoc, append-nil}
use Rattle.std.proofs.lemmas.Bool.{eqb-true}
use Rattle.std.specs.Prelude.{◌≡◌, ◌⊎◌, ℕ, true, false, ◌==◌, List, [], ◌∷◌, ◌++◌, map, find, flat_map, zip, slice_get, Option, Some, None, option_map}
use Rattle.std.specs.List.{list_any}
use Rattle.digest_core.specs.declared.Digest.{Digest}
use Rattle.chain_types.specs.declared.objects.ObjectKey.{ObjectKey}
use Rattle.chain_types.specs.declared.objects.Object.{Object}
use Rattle.chain_types.specs.declared.objects.Producer.{Producer}
use Rattle.chain_types.specs.declared.objects.Producer.TheVariants as producers
use Rattle.chain_types.specs.declared.transactions.Transaction.{Transaction}
use Rattle.protocol_spec.specs.declared.pieces.Executed.{Executed}
use Rattle.protocol_spec.specs.declared.answers.Held.{Held}
use Rattle.schedule_text.specs.declared.words.Event.{Event}
use Rattle.chain_types.specs.Equal.{id_eq, key_eq}
use Rattle.protocol_spec.proofs.Equality.{id_same, digest_same}
use Rattle.protocol_spec.specs.Chain.Words.{Has, Along, IsFront, all_some, repeats}
use Rattle.protocol_spec.specs.Chain.Tests.{producer_eq}
use Rattle.protocol_spec.specs.Chain.Keys.{object_key, objects_of}
use Rattle.protocol_spec.proofs.ListLemmas.{find-test, and-first, and-second, find_back, has_map, has_mapped, find_has, has_parts, has_left, find_front}
use Rattle.protocol_spec.proofs.Truth.{or_false_left, or_false_right}
use Rattle.protocol_spec.specs.Block.Execution.{execution}
use Rattle.protocol_spec.specs.Member.Versions.{Execution, Version, opened, written, written_by, versions, object_in}
use Rattle.protocol_spec.specs.Member.Admission.{Admission, assigned_of}
use Rattle.protocol_spec.specs.Member.Rounds.{Books, Wanted, wanted_by, wants_of, is_wanted, found, present}
use Rattle.protocol_spec.specs.Member.Member.{books}
use Rattle.world_spec.specs.Setting.{Setting}
use Rattle.world_spec.specs.World.{Seat, member_in}
use Rattle.world_spec.specs.Run.{world_after}
use Rattle.safety_law.proofs.Once.{has-key}
use Rattle.safety_law.specs.Agreed.{IsEarlier}
use Rattle.safety_law.specs.Explained.{IsExplained}
use Rattle.safety_law.specs.Alike.{AreHeldAlike}
use Rattle.safety_law.proofs.Prefixes.{one-sequence}
use Rattle.safety_law.proofs.Executing.{some-parts, wants-same, executions-explained}
use Rattle.block_law.proofs.Live.{has-flat}

-- ---- elements

-- an element of a list of which P holds along, with those before it
along-at : {A : Type 0} (P : List A → A → Type 0) (before xs : List A) (x : A) → Along P before xs → Has xs x → (front : List A) × (P front x × ((z : A) → Has front z → Has (before ++ xs) z))
along-at P before [] x along h = absurd h
along-at P before (y ∷ ys) x along (inl e) = (before, (subst (P before) e along.0, has_left before (y ∷ ys)))
along-at {A = A} P before (y ∷ ys) x along (inr h) =
    let r = along-at P (before ++ y ∷ []) ys x along.1 h in
    (r.0, (r.1.0, λ z k. subst (λ (zs : List A). Has zs z) (append_assoc before (y ∷ []) ys) (r.1.1 z k)))

-- ---- keys

-- of objects with different keys two with one key are one
pub one-key : (os : List Object) (a b : Object) → repeats key_eq (map object_key os) ≡ false → Has os a → Has os b → object_key a ≡ object_key b → a ≡ b
one-key [] a b once h k e = absurd h
one-key (o ∷ os) a b once (inl p) (inl q) e = sym p ∙ q
one-key (o ∷ os) a b once (inl p) (inr k) e =
    let there = has-key (map object_key os) (object_key o) (subst (Has (map object_key os)) (sym (ap object_key p ∙ e)) (has_map object_key os b k)) in
    let none = or_false_left (list_any (key_eq (object_key o)) (map object_key os)) (repeats key_eq (map object_key os)) once in
    absurd (cc)
one-key (o ∷ os) a b once (inr h) (inl q) e =
    let there = has-key (map object_key os) (object_key o) (subst (Has (map object_key os)) (sym (ap object_key q ∙ sym e)) (has_map object_key os a h)) in
    let none = or_false_left (list_any (key_eq (object_key o)) (map object_key os)) (repeats key_eq (map object_key os)) once in
    absurd (cc)
one-key (o ∷ os) a b once (inr h) (inr k) e = one-key os a b (or_false_right (list_any (key_eq (object_key o)) (map object_key os)) (repeats key_eq (map object_key os)) once) h k e

pub both-key : (a b : Object) (key : ObjectKey) → key_eq (object_key a) key ≡ true → key_eq (object_key b) key ≡ true → object_key a ≡ object_key b
both-key a b key e f =
    let i : a.id ≡ b.id = id_same a.id key.id (and-first (id_eq a.id key.id) (a.version == key.version) e) ∙ sym (id_same b.id key.id (and-first (id_eq b.id key.id) (b.version == key.version) f)) in
    let v : a.version ≡ b.version = eqb-true a.version key.version (and-second (id_eq a.id key.id) (a.version == key.version) e) ∙ sym (eqb-true b.version key.version (and-second (id_eq b.id key.id) (b.version == key.version) f)) in
    cc

-- ---- a wanted version

pub never-found : (key : ObjectKey) (held : List Version) → find (is_wanted key None) held ≡ None
never-found key [] = refl
never-found key (v ∷ held) = never-found key held

opened-not : (tx : Digest) (v : Version) (o : Object) → opened o ≡ v → producer_eq v.producer (producers.Tx tx) ≡ true → ⊥
opened-not tx v o e f = let g : producer_eq (opened o).producer (producers.Tx tx) ≡ true = subst (λ (u : Version). producer_eq u.producer (producers.Tx tx) ≡ true) (sym e) f in cc

written-not : (v : Version) (tx : Digest) (o : Object) → written tx o ≡ v → producer_eq v.producer producers.Opening ≡ true → ⊥
written-not v tx o e f = let g : producer_eq (written tx o).producer producers.Opening ≡ true = subst (λ (u : Version). producer_eq u.producer producers.Opening ≡ true) (sym e) f in cc

-- an opening version is found among the opening objects
pub among-opening : (opening : List Object) (executed : List Execution) (key : ObjectKey) (v : Version) → find (is_wanted key (Some producers.Opening)) (versions opening executed) ≡ Some v → find (is_wanted key (Some producers.Opening)) (map opened opening) ≡ Some v
unfolding versions
among-opening opening executed key v e = go (find (is_wanted key (Some producers.Opening)) (map opened opening)) refl
  where
    go : (f : Option Version) → find (is_wanted key (Some producers.Opening)) (map opened opening) ≡ f → f ≡ Some v
    go (Some u) h = sym (find_front (is_wanted key (Some producers.Opening)) (map opened opening) (flat_map written_by executed) u h) ∙ e
    go None h =
        let f = sym (find_back (is_wanted key (Some producers.Opening)) (map opened opening) (flat_map written_by executed) h) ∙ e in
        let x = has-flat written_by executed v (find_has (is_wanted key (Some producers.Opening)) (flat_map written_by executed) v f) in
        let o = has_mapped (written x.0.digest) x.0.gave.objects v x.2 in
        absurd (written-not v x.0.digest o.0 o.2 (and-second (key_eq (object_key v.object) key) (producer_eq v.producer producers.Opening) (find-test (is_wanted key (Some producers.Opening)) (flat_map written_by executed) v f)))

-- a version that a transaction made is written by its execution
pub record IsFrom (executed : List Execution) (tx : Digest) (o : Object) : Type 0 where
  pub by : Execution
  pub there : Has executed by
  pub named : by.digest ≡ tx
  pub written : Has by.gave.objects o

pub among-written : (opening : List Object) (executed : List Execution) (key : ObjectKey) (tx : Digest) (v : Version) → find (is_wanted key (Some (producers.Tx tx))) (versions opening executed) ≡ Some v → IsFrom executed tx v.object
unfolding versions
among-written opening executed key tx v e = go (has_parts (map opened opening) (flat_map written_by executed) v (find_has (is_wanted key (Some (producers.Tx tx))) (map opened opening ++ flat_map written_by executed) v e))
  where
    made : producer_eq v.producer (producers.Tx tx) ≡ true
    made = and-second (key_eq (object_key v.object) key) (producer_eq v.producer (producers.Tx tx)) (find-test (is_wanted key (Some (producers.Tx tx))) (map opened opening ++ flat_map written_by executed) v e)

    go : Has (map opened opening) v ⊎ Has (flat_map written_by executed) v → IsFrom executed tx v.object
    go (inl h) = let o = has_mapped opened opening v h in absurd (opened-not tx v o.0 o.2 made)
    go (inr h) =
        let x = has-flat written_by executed v h in
        let o = has_mapped (written x.0.digest) x.0.gave.objects v x.2 in
        record {
          by = x.0;
          there = x.1;
          named = digest_same x.0.digest tx (subst (λ (u : Version). producer_eq u.producer (producers.Tx tx) ≡ true) (sym o.2) made);
          written = subst (Has x.0.gave.objects) (ap object_in o.2) o.1;
        }

-- ---- two members

module _ (opening : List Object) (p q : Books) (at_p : p.opening ≡ opening) (at_q : q.opening ≡ opening)
    (alike : (h k : Held) → Has p.held h → Has q.held k → h.digest ≡ k.digest → (h.cert.tx ≡ k.cert.tx) × (h.cert.origins ≡ k.cert.origins))
    (along : IsFront p.admission.admitted q.admission.admitted ⊎ IsFront q.admission.admitted p.admission.admitted)
    (ys : List Execution) (explained : Along (IsExplained q) [] ys) where
  abbrev pub Agrees : List Execution → Type 0
  Agrees xs = (x : Execution) → Has xs x → (y : Execution) → Has ys y → x.digest ≡ y.digest → x.gave ≡ y.gave

  once-in : (y : Execution) → Has ys y → repeats key_eq (map object_key y.gave.objects) ≡ false
  once-in y h =
      let it = (along-at (IsExplained q) [] ys y explained h).1.0 in
      subst (λ (g : Executed). repeats key_eq (map object_key g.objects) ≡ false) (sym (ap (λ (z : Execution). z.gave) it.is)) it.once

  module _ (before front : List Execution) (agrees : Agrees before) (inside : (z : Execution) → Has front z → Has ys z) where
    one-object : (key : ObjectKey) (maker : Option Producer) (v u : Version) → find (is_wanted key maker) (versions opening before) ≡ Some v → find (is_wanted key maker) (versions opening front) ≡ Some u → v.object ≡ u.object
    one-object key None v u e f = let n = never-found key (versions opening before) in absurd (cc)
    one-object key (Some producers.Opening) v u e f = same (sym (among-opening opening before key v e) ∙ among-opening opening front key u f)
      where
        same : Some v ≡ Some u → v.object ≡ u.object
        same e = cc
    one-object key (Some (producers.Tx tx)) v u e f =
        let a = among-written opening before key tx v e in
        let b = among-written opening front key tx u f in
        let gave = agrees a.by a.there b.by (inside b.by b.there) (a.named ∙ sym b.named) in
        one-key b.by.gave.objects v.object u.object (once-in b.by (inside b.by b.there)) (subst (λ (g : Executed). Has g.objects v.object) gave a.written) b.written
        (both-key v.object u.object key
        (and-first (key_eq (object_key v.object) key) (producer_eq v.producer (producers.Tx tx)) (find-test (is_wanted key (Some (producers.Tx tx))) (versions opening before) v e))
        (and-first (key_eq (object_key u.object) key) (producer_eq u.producer (producers.Tx tx)) (find-test (is_wanted key (Some (producers.Tx tx))) (versions opening front) u f)))

    one-found : (w : Wanted) (o r : Object) → found (versions opening before) w ≡ Some o → found (versions opening front) w ≡ Some r → o ≡ r
    one-found w o r e f = go (find (is_wanted w.key w.producer) (versions opening before)) refl (find (is_wanted w.key w.producer) (versions opening front)) refl e f
      where
        go : (a : Option Version) → find (is_wanted w.key w.producer) (versions opening before) ≡ a → (b : Option Version) → find (is_wanted w.key w.producer) (versions opening front) ≡ b → option_map object_in a ≡ Some o → option_map object_in b ≡ Some r → o ≡ r
        go None h b k e f = absurd (cc)
        go (Some v) h None k e f = absurd (cc)
        go (Some v) h (Some u) k e f = sym (is v o e) ∙ one-object w.key w.producer v u h k ∙ is u r f
          where
            is : (v : Version) (o : Object) → Some (object_in v) ≡ Some o → v.object ≡ o
            is v o e = cc

    all-one : (ws : List Wanted) (os rs : List Object) → all_some (map (found (versions opening before)) ws) ≡ Some os → all_some (map (found (versions opening front)) ws) ≡ Some rs → os ≡ rs
    all-one [] os rs e f = same (sym e ∙ f)
      where
        same : Some os ≡ Some rs → os ≡ rs
        same e = cc
    all-one (w ∷ ws) os rs e f =
        let a = some-parts (found (versions opening before) w) (map (found (versions opening before)) ws) os e in
        let b = some-parts (found (versions opening front) w) (map (found (versions opening front)) ws) rs f in
        same (sym a.4 ∙ ap (λ (o : Object). Some (o ∷ a.1)) (one-found w a.0 b.0 a.2 b.2) ∙ ap (λ (zs : List Object). Some (b.0 ∷ zs)) (all-one ws a.1 b.1 a.3 b.3) ∙ b.4)
      where
        same : Some os ≡ Some rs → os ≡ rs
        same e = cc

    -- the two certificates want the same
    same-held : (a : Admission) (h k : Held) → h.digest ≡ k.digest → h.cert.tx ≡ k.cert.tx → h.cert.origins ≡ k.cert.origins → wants_of a h ≡ wants_of a k
    unfolding wants_of
    same-held a h k d t o =
        ap (λ (tx : Digest). map (wanted_by (assigned_of a tx)) (zip (objects_of h.cert.tx) h.cert.origins)) d
        ∙ ap (λ (x : Transaction). map (wanted_by (assigned_of a k.digest)) (zip (objects_of x) h.cert.origins)) t
        ∙ ap (λ (os : List (Option Digest)). map (wanted_by (assigned_of a k.digest)) (zip (objects_of k.cert.tx) os)) o

    same-wanted : (x y : Execution) (one : IsExplained p before x) (two : IsExplained q front y) → one.of.digest ≡ two.of.digest → one.of.cert.tx ≡ two.of.cert.tx → one.of.cert.origins ≡ two.of.cert.origins → wants_of p.admission one.of ≡ wants_of q.admission two.of
    same-wanted x y one two d t o = go along
      where
        go : IsFront p.admission.admitted q.admission.admitted ⊎ IsFront q.admission.admitted p.admission.admitted → wants_of p.admission one.of ≡ wants_of q.admission two.of
        go (inl f) = sym (wants-same p.admission q.admission one.of f one.may) ∙ same-held q.admission one.of two.of d t o
        go (inr f) = same-held p.admission one.of two.of d t o ∙ wants-same q.admission p.admission two.of f two.may

    same-gave : (x y : Execution) → IsExplained p before x → IsExplained q front y → x.digest ≡ y.digest → x.gave ≡ y.gave
    unfolding present
    same-gave x y one two e =
        let d : one.of.digest ≡ two.of.digest = sym (ap (λ (z : Execution). z.digest) one.is) ∙ e ∙ ap (λ (z : Execution). z.digest) two.is in
        let same = alike one.of two.of one.is_held two.is_held d in
        let os = all-one (wants_of p.admission one.of) one.inputs two.inputs
        (subst (λ (o : List Object). all_some (map (found (versions o before)) (wants_of p.admission one.of)) ≡ Some one.inputs) at_p one.were_there)
        (subst (λ (ws : List Wanted). all_some (map (found (versions opening front)) ws) ≡ Some two.inputs) (sym (same-wanted x y one two d same.0 same.1))
        (subst (λ (o : List Object). all_some (map (found (versions o front)) (wants_of q.admission two.of)) ≡ Some two.inputs) at_q two.were_there)) in
        ap (λ (z : Execution). z.gave) one.is ∙ ap (λ (t : Transaction). execution t one.inputs) same.0 ∙ ap (execution two.of.cert.tx) os ∙ sym (ap (λ (z : Execution). z.gave) two.is)

  next-agrees : (before : List Execution) (x : Execution) → Agrees before → IsExplained p before x → Agrees (before ++ x ∷ [])
  next-agrees before x agrees one z h y k e = go (has_parts before (x ∷ []) z h)
    where
      go : Has before z ⊎ Has (x ∷ []) z → z.gave ≡ y.gave
      go (inl h) = agrees z h y k e
      go (inr (inl s)) =
          let it = along-at (IsExplained q) [] ys y explained k in
          same-gave before it.0 agrees it.1.1 z y (subst (IsExplained p before) s one) it.1.0 e
      go (inr (inr h)) = absurd h

  pub all-agree : (xs before : List Execution) → Agrees before → Along (IsExplained p) before xs → Agrees (before ++ xs)
  all-agree [] before agrees next = subst Agrees (sym (append-nil before)) agrees
  all-agree (x ∷ xs) before agrees next = subst Agrees (append_assoc before (x ∷ []) xs) (all-agree xs (before ++ x ∷ []) (next-agrees before x agrees next.0) next.1)

pub executions-agree : (s : Setting) (events : List Event) (m n : ℕ) (a b : Seat) → slice_get (world_after s events).seats m ≡ Some a → slice_get (world_after s events).seats n ≡ Some b
    → (member_in s a).epoch ≡ (member_in s b).epoch → (member_in s a).opening ≡ (member_in s b).opening → AreHeldAlike (member_in s a) (member_in s b)
    → (x y : Execution) → Has (member_in s a).executed x → Has (member_in s b).executed y → x.digest ≡ y.digest → x.gave ≡ y.gave
executions-agree s events m n a b at by epoch opening alike x y h k e =
    all-agree (member_in s a).opening (books (member_in s a)) (books (member_in s b)) refl (sym opening) alike (go (one-sequence s events m n a b at by epoch opening))
    (member_in s b).executed (executions-explained s events n b by) (member_in s a).executed [] (λ z none. absurd none) (executions-explained s events m a at) x h y k e
  where
    go : IsEarlier (member_in s a).sequence (member_in s b).sequence ⊎ IsEarlier (member_in s b).sequence (member_in s a).sequence
        → IsFront (member_in s a).sequence.admission.admitted (member_in s b).sequence.admission.admitted ⊎ IsFront (member_in s b).sequence.admission.admitted (member_in s a).sequence.admission.admitted
    go (inl f) = inl f.admitted
    go (inr f) = inr f.admitted
