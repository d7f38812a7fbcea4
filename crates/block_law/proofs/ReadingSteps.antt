-- One thread over orderly steps reads at each step that step's objects.
use Rattle.std.proofs.Common.{inl, inr, refl, ap, subst, sym, ◌∙◌, append_assoc, append-nil}
use Rattle.std.proofs.lemmas.Bool.{eqb-true}
use Rattle.std.specs.Prelude.{◌≡◌, ◌⊎◌, ℕ, Bool, true, false, cond, ◌&&◌, ◌||◌, ◌==◌, List, [], ◌∷◌, ◌++◌, map, fold, zip, filter, filter_map, Option, Some, None}
use Rattle.std.specs.FinMap.{get}
use Rattle.chain_types.specs.declared.objects.ObjectId.{ObjectId}
use Rattle.chain_types.specs.declared.objects.ObjectKey.{ObjectKey}
use Rattle.chain_types.specs.declared.objects.ObjectRef.{ObjectRef}
use Rattle.chain_types.specs.declared.objects.Object.{Object}
use Rattle.chain_types.specs.declared.objects.Owner.{Owner}
use Rattle.chain_types.specs.declared.objects.Owner.TheVariants as owner
use Rattle.chain_types.specs.declared.objects.Address.{Address}
use Rattle.chain_types.specs.declared.transactions.Input.{Input}
use Rattle.chain_types.specs.declared.transactions.Input.TheVariants as inputs
use Rattle.chain_types.specs.declared.transactions.Transaction.{Transaction}
use Rattle.effects_core.specs.declared.effects.Written.{Written}
use Rattle.chain_types.specs.Equal.{digest_eq, id_eq}
use Rattle.chain_types.specs.Digests.{is_object, key_of, consumed_key, consumed_keys, digest_of_object}
use Rattle.protocol_spec.proofs.Equality.{id_same, id_self}
use Rattle.protocol_spec.specs.Chain.Words.{Has, Along, repeats, all_some, onto_some}
use Rattle.protocol_spec.specs.Chain.Tests.{has_id}
use Rattle.protocol_spec.specs.Chain.Keys.{object_key, objects_of, mutable_id, is_owned_by, is_shared_since, is_immutable, fits_input, fit_inputs, fits}
use Rattle.protocol_spec.proofs.ListLemmas.{along-push, and-first, and-second, has_left, has_right, has_parts}
use Rattle.protocol_spec.specs.Block.Execution.{execution, is_written}
use Rattle.protocol_spec.specs.Member.Sequential.{Objects, map_of, at_version, named_in, read_by, map_after, Folded, without_effects, with_execution, executed_on, fold_one, fold_all}
use Rattle.block_law.specs.Names.{touched_ids}
use Rattle.block_law.proofs.Effects.{written-ids, written-are, name_once, first-of-four}
use Rattle.block_law.proofs.Places.{has-chosen}
use Rattle.block_law.proofs.Written.{fit-at, fits-first}
use Rattle.block_law.specs.Orderly.{Step, gave, tx_of, id_of, Makes, IsKnown, IsLeftAlone, IsOpened, IsWritten, IsSource, IsOrderly, AreApart, ReadsSame, effects_in, IsOneThread}
use Rattle.block_law.proofs.Standing.{stays-after, stands-after, stands-opening}
use Rattle.block_law.proofs.Touched.{IsTouched, touched-object, touched-deleted}

-- ---- elements

pub has-zip : {A B : Type 0} (xs : List A) (ys : List B) (x : A) (y : B) → Has (zip xs ys) (x, y) → Has xs x
has-zip [] ys x y h = absurd h
has-zip (a ∷ xs) [] x y h = absurd h
has-zip {A = A} {B = B} (a ∷ xs) (b ∷ ys) x y (inl e) = inl (ap (λ (z : A × B). z.0) e)
has-zip (a ∷ xs) (b ∷ ys) x y (inr h) = inr (has-zip xs ys x y h)

pub has-kept : {A : Type 0} (test : A → Bool) (xs : List A) (x : A) → Has (filter test xs) x → Has xs x
has-kept test [] x h = absurd h
has-kept {A = A} test (y ∷ xs) x h = go (test y) h (has-kept test xs x)
  where
    go : (b : Bool) → Has (cond b (y ∷ filter test xs) (filter test xs)) x → (Has (filter test xs) x → Has xs x) → Has (y ∷ xs) x
    go true (inl e) rest = inl e
    go true (inr h) rest = inr (rest h)
    go false h rest = inr (rest h)

pub has-id : (ids : List ObjectId) (id : ObjectId) → Has ids id → has_id ids id ≡ true
has-id [] id h = absurd h
has-id (i ∷ ids) id (inl e) = subst (λ (z : ObjectId). (id_eq id z || has_id ids id) ≡ true) (sym e) (rw (id_self id) refl)
has-id (i ∷ ids) id (inr h) = go (id_eq id i) (has-id ids id h)
  where
    go : (b : Bool) → has_id ids id ≡ true → (b || has_id ids id) ≡ true
    go true e = refl
    go false e = e

-- an id is not among these, if none of them is it
pub no-id : (ids : List ObjectId) (id : ObjectId) → ((i : ObjectId) → Has ids i → i ≡ id → ⊥) → has_id ids id ≡ false
no-id [] id none = refl
no-id (i ∷ ids) id none = go (id_eq id i) refl (no-id ids id (λ j h e. none j (inr h) e))
  where
    go : (b : Bool) → id_eq id i ≡ b → has_id ids id ≡ false → (b || has_id ids id) ≡ false
    go true e rest = absurd (none i (inl refl) (sym (id_same id i e)))
    go false e rest = rest

-- ---- what fits

four-second : (a b c d : Bool) → (a && b && c && d) ≡ true → b ≡ true
four-second a b c d e = and-second a b (and-first (a && b) c (and-first (a && b && c) d e))

module _ (t : Transaction) (o : Object) where
  owned-id : (r : ObjectRef) → fits_input t (inputs.Owned r) o ≡ true → o.id ≡ r.id
  owned-id r e = id_same o.id r.id (first-of-four (id_eq o.id r.id) (o.version == r.version) (digest_eq (digest_of_object o) r.digest) (is_owned_by t.sender o.owner) e)

  owned-version : (r : ObjectRef) → fits_input t (inputs.Owned r) o ≡ true → (o.version == r.version) ≡ true
  owned-version r e = four-second (id_eq o.id r.id) (o.version == r.version) (digest_eq (digest_of_object o) r.digest) (is_owned_by t.sender o.owner) e

  owned-owner : (r : ObjectRef) → fits_input t (inputs.Owned r) o ≡ true → is_owned_by t.sender o.owner ≡ true
  owned-owner r e = and-second (id_eq o.id r.id && (o.version == r.version) && digest_eq (digest_of_object o) r.digest) (is_owned_by t.sender o.owner) e

  frozen-id : (r : ObjectRef) → fits_input t (inputs.Immutable r) o ≡ true → o.id ≡ r.id
  frozen-id r e = id_same o.id r.id (first-of-four (id_eq o.id r.id) (o.version == r.version) (digest_eq (digest_of_object o) r.digest) (is_immutable o.owner) e)

  frozen-version : (r : ObjectRef) → fits_input t (inputs.Immutable r) o ≡ true → (o.version == r.version) ≡ true
  frozen-version r e = four-second (id_eq o.id r.id) (o.version == r.version) (digest_eq (digest_of_object o) r.digest) (is_immutable o.owner) e

  frozen-owner : (r : ObjectRef) → fits_input t (inputs.Immutable r) o ≡ true → is_immutable o.owner ≡ true
  frozen-owner r e = and-second (id_eq o.id r.id && (o.version == r.version) && digest_eq (digest_of_object o) r.digest) (is_immutable o.owner) e

  shared-id : (id : ObjectId) (initial : ℕ) (mutable : Bool) → fits_input t (inputs.Shared id initial mutable) o ≡ true → o.id ≡ id
  shared-id id initial mutable e = id_same o.id id (and-first (id_eq o.id id) (is_shared_since initial o.owner) e)

  shared-owner : (id : ObjectId) (initial : ℕ) (mutable : Bool) → fits_input t (inputs.Shared id initial mutable) o ≡ true → is_shared_since initial o.owner ≡ true
  shared-owner id initial mutable e = and-second (id_eq o.id id) (is_shared_since initial o.owner) e

  owned-key : (r : ObjectRef) → fits_input t (inputs.Owned r) o ≡ true → key_of r ≡ object_key o
  owned-key r e = let i = owned-id r e in let v = eqb-true o.version r.version (owned-version r e) in cc

owned-frozen : (who : Address) (w : Owner) → is_owned_by who w ≡ true → is_immutable w ≡ true → ⊥
owned-frozen who (owner.Address a) e f = cc
owned-frozen who (owner.Shared initial) e f = cc
owned-frozen who owner.Immutable e f = cc

owned-shared : (who : Address) (initial : ℕ) (w : Owner) → is_owned_by who w ≡ true → is_shared_since initial w ≡ true → ⊥
owned-shared who initial (owner.Address a) e f = cc
owned-shared who initial (owner.Shared n) e f = cc
owned-shared who initial owner.Immutable e f = cc

frozen-shared : (initial : ℕ) (w : Owner) → is_immutable w ≡ true → is_shared_since initial w ≡ true → ⊥
frozen-shared initial (owner.Address a) e f = cc
frozen-shared initial (owner.Shared n) e f = cc
frozen-shared initial owner.Immutable e f = cc

-- an owned object is consumed
consumes-owned : (t : Transaction) (r : ObjectRef) → Has (objects_of t) (inputs.Owned r) → Has (consumed_keys t) (key_of r)
unfolding consumed_keys
consumes-owned t r h = has-chosen consumed_key (inputs.Owned t.gas ∷ t.inputs) (inputs.Owned r) (key_of r) (go h) refl
  where
    go : Has (objects_of t) (inputs.Owned r) → Has (inputs.Owned t.gas ∷ t.inputs) (inputs.Owned r)
    go (inl e) = inl e
    go (inr h) = inr (has-kept is_object t.inputs (inputs.Owned r) h)

mutates : (t : Transaction) (id : ObjectId) (initial : ℕ) → Has (objects_of t) (inputs.Shared id initial true) → has_id (filter_map mutable_id t.inputs) id ≡ true
mutates t id initial (inl e) = absurd (cc)
mutates t id initial (inr h) = has-id (filter_map mutable_id t.inputs) id (has-chosen mutable_id t.inputs (inputs.Shared id initial true) id (has-kept is_object t.inputs (inputs.Shared id initial true) h) refl)

-- ---- one step leaves what a later one reads

-- no version that the one consumes is consumed by the other
abbrev NoSharedKey : Step → Step → Type 0
NoSharedKey y x = (key : ObjectKey) → Has (consumed_keys y.tx) key → Has (consumed_keys x.tx) key → ⊥

abbrev AloneOf : Input → Step → Type 0
AloneOf i y = IsLeftAlone i (y ∷ [])

module _ (y x : Step) (j i : Input) (p : Object) (keys : NoSharedKey y x) (writes : fits_input y.tx j p ≡ true) (reads : fits_input x.tx i p ≡ true) (named : Has (objects_of y.tx) j) (needs : Has (objects_of x.tx) i) where
  owned-by-both : (r : ObjectRef) → j ≡ inputs.Owned r → AloneOf i y → ⊥
  owned-by-both r at alone = go i refl reads needs
    where
      w : fits_input y.tx (inputs.Owned r) p ≡ true
      w = subst (λ (k : Input). fits_input y.tx k p ≡ true) at writes

      go : (k : Input) → i ≡ k → fits_input x.tx k p ≡ true → Has (objects_of x.tx) k → ⊥
      go (inputs.Pure bytes) e f h = cc
      go (inputs.Owned s) e f h = keys (key_of r) (consumes-owned y.tx r (subst (Has (objects_of y.tx)) at named))
          (subst (Has (consumed_keys x.tx)) (owned-key x.tx p s f ∙ sym (owned-key y.tx p r w)) (consumes-owned x.tx s h))
      go (inputs.Immutable s) e f h = owned-frozen y.tx.sender p.owner (owned-owner y.tx p r w) (frozen-owner x.tx p s f)
      go (inputs.Shared id initial mutable) e f h = owned-shared y.tx.sender initial p.owner (owned-owner y.tx p r w) (shared-owner x.tx p id initial mutable f)

  shared-by-both : (id : ObjectId) (initial : ℕ) → j ≡ inputs.Shared id initial true → AloneOf i y → ⊥
  shared-by-both id initial at alone = go i reads alone
    where
      w : fits_input y.tx (inputs.Shared id initial true) p ≡ true
      w = subst (λ (k : Input). fits_input y.tx k p ≡ true) at writes

      go : (k : Input) → fits_input x.tx k p ≡ true → AloneOf k y → ⊥
      go (inputs.Pure bytes) f alone = cc
      go (inputs.Owned s) f alone = owned-shared x.tx.sender initial p.owner (owned-owner x.tx p s f) (shared-owner y.tx p id initial true w)
      go (inputs.Immutable s) f alone = frozen-shared initial p.owner (frozen-owner x.tx p s f) (shared-owner y.tx p id initial true w)
      go (inputs.Shared it since mutable) f alone =
          let has = subst (λ (z : ObjectId). has_id (filter_map mutable_id y.tx.inputs) z ≡ true) (sym (shared-id y.tx p id initial true w) ∙ shared-id x.tx p it since mutable f) (mutates y.tx id initial (subst (Has (objects_of y.tx)) at named)) in
          let none = alone.0 in cc

  -- what a step may write is not what another reads
  pub not-both : is_written j ≡ true → AloneOf i y → ⊥
  not-both may alone = go j refl may
    where
      go : (k : Input) → j ≡ k → is_written k ≡ true → ⊥
      go (inputs.Pure bytes) e may = cc
      go (inputs.Owned r) e may = owned-by-both r e alone
      go (inputs.Immutable r) e may = cc
      go (inputs.Shared id initial true) e may = shared-by-both id initial e alone
      go (inputs.Shared id initial false) e may = cc

-- the objects that a step names stand in the map
abbrev pub Reads : Objects → Step → Type 0
Reads m y = (i : Input) (o : Object) → Has (zip (objects_of y.tx) y.inputs) (i, o) → get m o.id ≡ Some o

-- the ids of written and deleted objects
abbrev pub given_ids : Step → List ObjectId
given_ids y = map id_of (gave y).objects ++ (gave y).effects.deleted

object-id : (P : ObjectId → Type 0) (os : List Object) (id : ObjectId) → ((o : Object) → Has os o → P o.id) → Has (map id_of os) id → P id
object-id P [] id each h = absurd h
object-id P (o ∷ os) id each (inl e) = subst P e (each o (inl refl))
object-id P (o ∷ os) id each (inr h) = object-id P os id (λ q k. each q (inr k)) h

pub given-touched : (y : Step) (id : ObjectId) → Has (given_ids y) id → IsTouched y id
given-touched y id h = go (has_parts (map id_of (gave y).objects) (gave y).effects.deleted id h)
  where
    go : Has (map id_of (gave y).objects) id ⊎ Has (gave y).effects.deleted id → IsTouched y id
    go (inl h) = object-id (IsTouched y) (gave y).objects id (touched-object y) h
    go (inr h) = touched-deleted y id h

pub has-mapped-id : (os : List Object) (o : Object) → Has os o → Has (map id_of os) o.id
has-mapped-id [] o h = absurd h
has-mapped-id (p ∷ os) o (inl e) = inl (ap id_of e)
has-mapped-id (p ∷ os) o (inr h) = inr (has-mapped-id os o h)

pub object-given : (y : Step) (o : Object) → Has (gave y).objects o → Has (given_ids y) o.id
object-given y o h = has_left (map id_of (gave y).objects) (gave y).effects.deleted o.id (has-mapped-id (gave y).objects o h)

-- an object that stands, and that a later step reads, still stands after this one
still-stands : (m : Objects) (y x : Step) (i : Input) (o : Object) → Reads m y → fits y.tx y.inputs ≡ true → fits_input x.tx i o ≡ true → Has (objects_of x.tx) i → NoSharedKey y x → AloneOf i y → (Makes y o.id → ⊥) → get m o.id ≡ Some o → get (map_after m (gave y)) o.id ≡ Some o
still-stands m y x i o reads fit fitting needs keys alone fresh stands = stays-after m (gave y) o.id (no-id (given_ids y) o.id (λ id h e. apart (subst (IsTouched y) e (given-touched y id h)))) ∙ stands
  where
    same : (p : Object) → Some p ≡ Some o → p ≡ o
    same p e = cc

    apart : IsTouched y o.id → ⊥
    apart (inr makes) = fresh makes
    apart (inl it) =
        let one : it.old ≡ o = same it.old (sym (reads it.of it.old it.named) ∙ ap (get m) it.same ∙ stands) in
        not-both y x it.of i it.old keys (fit-at y.tx (objects_of y.tx) y.inputs it.of it.old (fits-first y.tx y.inputs fit) it.named)
        (subst (λ (q : Object). fits_input x.tx i q ≡ true) (sym one) fitting) (has-zip (objects_of y.tx) y.inputs it.of it.old it.named) needs it.may_write alone

-- ---- a list of steps

module _ (opening : List Object) where
  -- the map after these steps
  abbrev pub after_steps : List Step → Objects
  after_steps before = fold (λ (m : Objects) (y : Step). map_after m (gave y)) (map_of opening) before

  pub after-push : (m : Objects) (before : List Step) (y : Step) → fold (λ (m : Objects) (y : Step). map_after m (gave y)) m (before ++ y ∷ []) ≡ map_after (fold (λ (m : Objects) (y : Step). map_after m (gave y)) m before) (gave y)
  after-push m [] y = refl
  after-push m (z ∷ before) y = after-push (map_after m (gave z)) before y

  abbrev pub Finds : List Step → Step → Type 0
  Finds before y = Reads (after_steps before) y

  pub along-back : (P : List Step → Step → Type 0) (before front back : List Step) → Along P before (front ++ back) → Along P (before ++ front) back
  along-back P before [] back along = subst (λ (xs : List Step). Along P xs back) (sym (append-nil before)) along
  along-back P before (y ∷ front) back along = subst (λ (xs : List Step). Along P xs back) (append_assoc before (y ∷ []) front) (along-back P (before ++ y ∷ []) front back along.1)

  pub known-more : (before more : List Step) (id : ObjectId) → IsKnown opening before id → IsKnown opening (before ++ more) id
  known-more before more id (inl o) = inl o
  known-more before more id (inr (y, h, makes)) = inr (y, has_left before more y h, makes)

  alone-first : (i : Input) (y : Step) (back : List Step) → IsLeftAlone i (y ∷ back) → AloneOf i y
  alone-first (inputs.Pure bytes) y back alone = tt
  alone-first (inputs.Owned r) y back alone = tt
  alone-first (inputs.Immutable r) y back alone = tt
  alone-first (inputs.Shared id initial mutable) y back alone = (alone.0, tt)

  alone-rest : (i : Input) (y : Step) (back : List Step) → IsLeftAlone i (y ∷ back) → IsLeftAlone i back
  alone-rest (inputs.Pure bytes) y back alone = tt
  alone-rest (inputs.Owned r) y back alone = tt
  alone-rest (inputs.Immutable r) y back alone = tt
  alone-rest (inputs.Shared id initial mutable) y back alone = alone.1

  -- what stands before some steps stands after them
  stays : (x : Step) (i : Input) (o : Object) → fits_input x.tx i o ≡ true → Has (objects_of x.tx) i → (front back : List Step) → Along (IsOrderly opening) front back → Along Finds front back → ((y : Step) → Has back y → NoSharedKey y x) → IsLeftAlone i back → IsKnown opening front o.id
      → get (after_steps front) o.id ≡ Some o → get (after_steps (front ++ back)) o.id ≡ Some o
  stays x i o fitting needs front [] orderly finds keys alone known stands = subst (λ (ys : List Step). get (after_steps ys) o.id ≡ Some o) (sym (append-nil front)) stands
  stays x i o fitting needs front (y ∷ back) orderly finds keys alone known stands =
      subst (λ (ys : List Step). get (after_steps ys) o.id ≡ Some o) (append_assoc front (y ∷ []) back)
      (stays x i o fitting needs (front ++ y ∷ []) back orderly.1 finds.1 (λ z h. keys z (inr h)) (alone-rest i y back alone) (known-more front (y ∷ []) o.id known)
      (subst (λ (m : Objects). get m o.id ≡ Some o) (sym (after-push (map_of opening) front y))
      (still-stands (after_steps front) y x i o finds.0 orderly.0.fit fitting needs (keys y (inl refl)) (alone-first i y back alone) (λ makes. orderly.0.fresh o.id makes known) stands)))

  -- the ids that a step wrote or deleted are known after it
  abbrev pub WroteKnown : List Step → Step → Type 0
  WroteKnown before y = (id : ObjectId) → Has (given_ids y) id → IsKnown opening (before ++ y ∷ []) id

  pub record IsGoneOver (before : List Step) : Type 0 where
    pub orderly : Along (IsOrderly opening) [] before
    pub finds : Along Finds [] before
    pub known : Along WroteKnown [] before

  pub given-once : (y : Step) → fits y.tx y.inputs ≡ true → repeats id_eq (touched_ids y.tx (gave y).effects) ≡ false → repeats id_eq (given_ids y) ≡ false
  given-once y fit once = subst (λ (ids : List ObjectId). repeats id_eq (ids ++ (gave y).effects.deleted) ≡ false)
      (ap (map (λ (w : Written). w.id)) (written-are y.tx y.inputs) ∙ written-ids (gave y).objects) (name_once y.tx y.inputs fit once)

  module _ (distinct : AreApart opening) (before : List Step) (over : IsGoneOver before) (x : Step) (next : IsOrderly opening before x) where
    source-known : (i : Input) (o : Object) → IsSource opening before i o → IsKnown opening before o.id
    source-known i o (inl from) = inl (o, from.opened, refl)
    source-known i o (inr from) =
        let known = along-back WroteKnown [] from.front (from.writer ∷ from.back) (subst (λ (ys : List Step). Along WroteKnown [] ys) from.split over.known) in
        let whole : (from.front ++ from.writer ∷ []) ++ from.back ≡ before = append_assoc from.front (from.writer ∷ []) from.back ∙ sym from.split in
        subst (λ (ys : List Step). IsKnown opening ys o.id) whole (known-more (from.front ++ from.writer ∷ []) from.back o.id (known.0 o.id (object-given from.writer o from.written)))

    module _ (i : Input) (o : Object) (named : Has (zip (objects_of x.tx) x.inputs) (i, o)) where
      fitting : fits_input x.tx i o ≡ true
      fitting = fit-at x.tx (objects_of x.tx) x.inputs i o (fits-first x.tx x.inputs next.fit) named

      from-opening : IsOpened opening before i o → get (after_steps before) o.id ≡ Some o
      from-opening from = stays x i o fitting (has-zip (objects_of x.tx) x.inputs i o named) [] before over.orderly over.finds next.apart from.alone (inl (o, from.opened, refl)) (stands-opening opening o distinct from.opened)

      from-writer : IsWritten before i o → get (after_steps before) o.id ≡ Some o
      from-writer from =
          let whole : before ≡ (from.front ++ from.writer ∷ []) ++ from.back = from.split ∙ sym (append_assoc from.front (from.writer ∷ []) from.back) in
          let orderly = along-back (IsOrderly opening) [] from.front (from.writer ∷ from.back) (subst (λ (ys : List Step). Along (IsOrderly opening) [] ys) from.split over.orderly) in
          let finds = along-back Finds [] from.front (from.writer ∷ from.back) (subst (λ (ys : List Step). Along Finds [] ys) from.split over.finds) in
          let known = along-back WroteKnown [] from.front (from.writer ∷ from.back) (subst (λ (ys : List Step). Along WroteKnown [] ys) from.split over.known) in
          subst (λ (ys : List Step). get (after_steps ys) o.id ≡ Some o) (sym whole)
          (stays x i o fitting (has-zip (objects_of x.tx) x.inputs i o named) (from.front ++ from.writer ∷ []) from.back orderly.1 finds.1
          (λ y h. next.apart y (subst (λ (ys : List Step). Has ys y) (sym from.split) (has_right from.front (from.writer ∷ from.back) y (inr h)))) from.alone
          (known.0 o.id (object-given from.writer o from.written))
          (subst (λ (m : Objects). get m o.id ≡ Some o) (sym (after-push (map_of opening) from.front from.writer))
          (stands-after (after_steps from.front) (gave from.writer) o (given-once from.writer orderly.0.fit orderly.0.once) from.written)))

      found : IsSource opening before i o → get (after_steps before) o.id ≡ Some o
      found (inl from) = from-opening from
      found (inr from) = from-writer from

    pub finds-next : Finds before x
    finds-next i o named = found i o named (next.sources i o named)

    known-next : WroteKnown before x
    known-next id h = go (given-touched x id h)
      where
        go : IsTouched x id → IsKnown opening (before ++ x ∷ []) id
        go (inr makes) = inr (x, has_right before (x ∷ []) x (inl refl), makes)
        go (inl it) = subst (IsKnown opening (before ++ x ∷ [])) it.same (known-more before (x ∷ []) it.old.id (source-known it.of it.old (next.sources it.of it.old it.named)))

    pub over-next : IsGoneOver (before ++ x ∷ [])
    over-next = record {
      orderly = along-push (IsOrderly opening) [] before x over.orderly next;
      finds = along-push Finds [] before x over.finds finds-next;
      known = along-push WroteKnown [] before x over.known known-next;
    }

  pub goes-over : AreApart opening → (xs before : List Step) → IsGoneOver before → Along (IsOrderly opening) before xs → IsGoneOver (before ++ xs)
  goes-over distinct [] before over next = subst IsGoneOver (sym (append-nil before)) over
  goes-over distinct (x ∷ xs) before over next = subst IsGoneOver (append_assoc before (x ∷ []) xs) (goes-over distinct xs (before ++ x ∷ []) (over-next distinct before over x next.0) next.1)

  -- ---- one thread

  abbrev pub thread_after : List Step → Folded
  thread_after before = record { map = after_steps before; effects = map effects_in before }

  read-all : (m : Objects) (t : Transaction) (is : List Input) (os : List Object) → fit_inputs t is os ≡ true → ((i : Input) (o : Object) → Has (zip is os) (i, o) → get m o.id ≡ Some o) → all_some (map (named_in m) is) ≡ Some os
  read-all m t [] [] e h = refl
  read-all m t [] (o ∷ os) e h = absurd (cc)
  read-all m t (i ∷ is) [] e h = absurd (cc)
  read-all m t (i ∷ is) (o ∷ os) e h = both (named_in m i) (map (named_in m) is) (one i (and-first (fits_input t i o) (fit_inputs t is os) e)) (read-all m t is os (and-second (fits_input t i o) (fit_inputs t is os) e) (λ j p k. h j p (inr k)))
    where
      both : (first : Option Object) (rest : List (Option Object)) → first ≡ Some o → all_some rest ≡ Some os → all_some (first ∷ rest) ≡ Some (o ∷ os)
      both None rest e f = absurd (cc)
      both (Some p) rest e f = ap (onto_some p) f ∙ same p e
        where
          same : (p : Object) → Some p ≡ Some o → Some (p ∷ os) ≡ Some (o ∷ os)
          same p e = cc

      stands : get m o.id ≡ Some o
      stands = h i o (inl refl)

      versioned : (v : ℕ) (id : ObjectId) → o.id ≡ id → (o.version == v) ≡ true → at_version v (get m id) ≡ Some o
      versioned v id e q = subst (λ (g : Option Object). at_version v g ≡ Some o) (sym (ap (get m) (sym e) ∙ stands)) (rw q refl)

      one : (i : Input) → fits_input t i o ≡ true → named_in m i ≡ Some o
      one (inputs.Pure bytes) f = absurd (cc)
      one (inputs.Owned r) f = versioned r.version r.id (owned-id t o r f) (owned-version t o r f)
      one (inputs.Immutable r) f = versioned r.version r.id (frozen-id t o r f) (frozen-version t o r f)
      one (inputs.Shared id initial mutable) f = ap (get m) (sym (shared-id t o id initial mutable f)) ∙ stands

  reads-inputs : (m : Objects) (x : Step) → fits x.tx x.inputs ≡ true → Reads m x → read_by m x.tx ≡ Some x.inputs
  reads-inputs m x fit reads = read-all m x.tx (objects_of x.tx) x.inputs (fits-first x.tx x.inputs fit) reads

  thread-step : (f : Folded) (x : Step) → fits x.tx x.inputs ≡ true → read_by f.map x.tx ≡ Some x.inputs → fold_one f x.tx ≡ with_execution f (gave x)
  unfolding fold_one
  thread-step f x fit read = go (read_by f.map x.tx) read
    where
      go : (r : Option (List Object)) → r ≡ Some x.inputs → executed_on f x.tx r ≡ with_execution f (gave x)
      go None e = absurd (cc)
      go (Some objects) e = subst (λ (os : List Object). cond (fits x.tx os) (with_execution f (execution x.tx os)) (without_effects f) ≡ with_execution f (gave x)) (sym (same objects e))
          (subst (λ (b : Bool). cond b (with_execution f (gave x)) (without_effects f) ≡ with_execution f (gave x)) (sym fit) refl)
        where
          same : (objects : List Object) → Some objects ≡ Some x.inputs → objects ≡ x.inputs
          same objects e = cc

  effects-push : (before : List Step) (x : Step) → map effects_in (before ++ x ∷ []) ≡ map effects_in before ++ effects_in x ∷ []
  effects-push [] x = refl
  effects-push (y ∷ before) x = ap (λ es. effects_in y ∷ es) (effects-push before x)

  thread-push : (before : List Step) (x : Step) → with_execution (thread_after before) (gave x) ≡ thread_after (before ++ x ∷ [])
  thread-push before x = rw (after-push (map_of opening) before x, effects-push before x) refl

  thread-all : (xs before : List Step) → Along (IsOrderly opening) before xs → Along Finds before xs → fold fold_one (thread_after before) (map tx_of xs) ≡ thread_after (before ++ xs)
  thread-all [] before orderly finds = ap thread_after (sym (append-nil before))
  thread-all (x ∷ xs) before orderly finds =
      ap (λ (f : Folded). fold fold_one f (map tx_of xs)) (thread-step (thread_after before) x orderly.0.fit (reads-inputs (after_steps before) x orderly.0.fit finds.0) ∙ thread-push before x)
      ∙ thread-all xs (before ++ x ∷ []) orderly.1 finds.1
      ∙ ap thread_after (append_assoc before (x ∷ []) xs)

  pub thread-is : (steps : List Step) → Along (IsOrderly opening) [] steps → Along Finds [] steps → fold_all (map_of opening) (map tx_of steps) ≡ thread_after steps
  unfolding fold_all
  thread-is steps orderly finds = thread-all steps [] orderly finds

  reads-same : (xs before : List Step) → Along (IsOrderly opening) [] before → Along Finds [] before → Along (IsOrderly opening) before xs → Along Finds before xs → Along (ReadsSame opening) before xs
  reads-same [] before orderly finds next found = tt
  reads-same (x ∷ xs) before orderly finds next found = (
    subst (λ (f : Folded). read_by f.map x.tx ≡ Some x.inputs) (sym (thread-is before orderly finds)) (reads-inputs (after_steps before) x next.0.fit found.0),
    reads-same xs (before ++ x ∷ []) (along-push (IsOrderly opening) [] before x orderly next.0) (along-push Finds [] before x finds found.0) next.1 found.1,
  )

pub chain-reads : (opening : List Object) (steps : List Step) → AreApart opening → Along (IsOrderly opening) [] steps → IsOneThread opening steps
chain-reads opening steps distinct orderly =
    let over = goes-over opening distinct steps [] (record { orderly = tt; finds = tt; known = tt }) orderly in
    record {
      reads = reads-same opening steps [] tt tt orderly over.finds;
      effects = ap (λ (f : Folded). f.effects) (thread-is opening steps orderly over.finds);
    }
