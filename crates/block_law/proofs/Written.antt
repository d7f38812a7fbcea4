-- A written object is shared as the object that it replaces, and a new one since the version of the transaction.
use Rattle.std.proofs.Common.{inl, inr, refl, ap, sym, subst, ◌∙◌, arith}
use Rattle.std.specs.Prelude.{◌≡◌, ◌⊎◌, ◌≤◌, ◌<◌, ◌+◌, ℕ, zero, suc, true, false, ◌&&◌, ◌==◌, List, [], ◌∷◌, ◌++◌, map, zip, filter, filter_map, find, slice_get, option_map, Option, Some, None, Result, Ok, Err, nat_lt}
use Rattle.std.specs.List.{cons_option}
use Rattle.chain_types.specs.declared.objects.ObjectId.{ObjectId}
use Rattle.chain_types.specs.declared.objects.Object.{Object}
use Rattle.chain_types.specs.declared.objects.Owner.{Owner}
use Rattle.chain_types.specs.declared.objects.Owner.TheVariants as owner
use Rattle.chain_types.specs.declared.transactions.Input.{Input}
use Rattle.chain_types.specs.declared.transactions.Input.TheVariants as inputs
use Rattle.chain_types.specs.declared.transactions.Transaction.{Transaction}
use Rattle.chain_types.specs.Equal.{digest_eq, id_eq}
use Rattle.chain_types.specs.Digests.{transaction_digest, digest_of_object, is_object}
use Rattle.protocol_spec.specs.declared.pieces.Item.{Item}
use Rattle.protocol_spec.specs.declared.pieces.Placed.{Placed}
use Rattle.protocol_spec.proofs.Equality.{id_same, id_self}
use Rattle.protocol_spec.specs.Chain.Words.{Has, numbers_below, repeats}
use Rattle.protocol_spec.specs.Chain.Keys.{objects_of, named_ids, version_of, version_limit, is_owned_by, fits_input, fit_inputs, pays_gas, fits}
use Rattle.protocol_spec.proofs.ListLemmas.{find-test, and-first, and-second, is_below, has_parts, has_mapped, find_has, has_map, each_has}
use Rattle.protocol_spec.specs.Block.Block.{Place, input, Block, value_in}
use Rattle.protocol_spec.specs.Block.Commands.{piece_of}
use Rattle.protocol_spec.specs.Block.Execution.{Failure, first_slots, outcome, object_at, left_in, now_in, after_block, is_written, written_inputs, written_places, created_objects, with_rest_first, same_object, less_cost_first, execution, executed_by}
use Rattle.block_law.specs.Names.{drawn_id, drawn_ids, touched_ids}
use Rattle.block_law.proofs.Counts.{hit, times, times-append, once-each}
use Rattle.block_law.proofs.Blocks.{done-is}
use Rattle.block_law.proofs.Effects.{id_of, IsOrigin, origins, left-id, after-id, objects-ids}
use Rattle.block_law.specs.Shared.{shared_since, IsAsNamed, IsSharedFrom, IsNew}
use Rattle.block_law.proofs.Places.{at-index, From, from-next, from-here, still}
use Rattle.block_law.proofs.Tracked.{IsDrawn, Left, HasLeft, ends-tracked}

-- ---- lists

pub chosen-from : {A B : Type 0} (f : A → Option B) (xs : List A) (y : B) → Has (filter_map f xs) y → (x : A) × Has xs x × (f x ≡ Some y)
chosen-from f [] y h = absurd h
chosen-from {A = A} {B = B} f (x ∷ xs) y h = go (f x) refl h (chosen-from f xs y)
  where
    go : (o : Option B) → f x ≡ o → Has (cons_option o (filter_map f xs)) y → (Has (filter_map f xs) y → (z : A) × Has xs z × (f z ≡ Some y)) → (z : A) × Has (x ∷ xs) z × (f z ≡ Some y)
    go None e h rest = let r = rest h in (r.0, inr r.1, r.2)
    go (Some z) e (inl q) rest = (x, inl refl, e ∙ ap Some q)
    go (Some z) e (inr h) rest = let r = rest h in (r.0, inr r.1, r.2)

pub second : {A B : Type 0} (xs : List A) (ys : List B) (x : A) (y : B) → Has (zip xs ys) (x, y) → Has ys y
second [] ys x y h = absurd h
second (a ∷ xs) [] x y h = absurd h
second {A = A} {B = B} (a ∷ xs) (b ∷ ys) x y (inl e) = inl (ap (λ (z : A × B). z.1) e)
second (a ∷ xs) (b ∷ ys) x y (inr h) = inr (second xs ys x y h)

pub below : (k n : ℕ) → Has (numbers_below k) n → n < k
below zero n h = absurd h
below (suc k) n h = go (has_parts (numbers_below k) (k ∷ []) n h) (below k n)
  where
    go : Has (numbers_below k) n ⊎ Has (k ∷ []) n → (Has (numbers_below k) n → n < k) → n < suc k
    go (inl h) rest = let less = rest h in omega (arith, less)
    go (inr (inl e)) rest = omega (arith, e)
    go (inr (inr h)) rest = absurd h

-- ---- no named id is drawn

has-times : (xs : List ObjectId) (y : ObjectId) → Has xs y → 1 ≤ times y xs
has-times [] y h = absurd h
has-times (x ∷ xs) y (inl e) = let one : hit (id_eq x y) ≡ 1 = ap hit (subst (λ z. id_eq x z ≡ true) e (id_self x)) in omega (arith, one)
has-times (x ∷ xs) y (inr h) = let rest = has-times xs y h in omega (arith, rest)

not-both : (xs ys : List ObjectId) (y : ObjectId) → repeats id_eq (xs ++ ys) ≡ false → Has xs y → Has ys y → ⊥
not-both xs ys y apart h k =
    let most = once-each (xs ++ ys) apart y in
    let both = times-append y xs ys in
    let first = has-times xs y h in
    let other = has-times ys y k in
    omega (arith, most, both, first, other)

-- ---- the objects that lie in written places

pub fits-first : (t : Transaction) (objects : List Object) → fits t objects ≡ true → fit_inputs t (objects_of t) objects ≡ true
unfolding fits
fits-first t objects fit = and-first (fit_inputs t (objects_of t) objects) (pays_gas t objects) (and-first (fit_inputs t (objects_of t) objects && pays_gas t objects) (nat_lt (version_of objects) version_limit) fit)

pub fit-at : (t : Transaction) (is : List Input) (os : List Object) (i : Input) (o : Object) → fit_inputs t is os ≡ true → Has (zip is os) (i, o) → fits_input t i o ≡ true
fit-at t [] os i o fit h = absurd h
fit-at t (j ∷ is) [] i o fit h = absurd h
fit-at t (j ∷ is) (p ∷ os) i o fit (inl e) = subst (λ (z : Input × Object). fits_input t z.0 z.1 ≡ true) e (and-first (fits_input t j p) (fit_inputs t is os) fit)
fit-at t (j ∷ is) (p ∷ os) i o fit (inr h) = fit-at t is os i o (and-second (fits_input t j p) (fit_inputs t is os) fit) h

-- an owned object is not shared
owned-not-shared : (t : Transaction) (o : Object) (who : Owner) → is_owned_by t.sender who ≡ true → shared_since who ≡ None
owned-not-shared t o (owner.Address a) e = refl
owned-not-shared t o (owner.Shared k) e = absurd (cc)
owned-not-shared t o owner.Immutable e = absurd (cc)

record IsOf (whole : List Input) (named : List (Input × Object)) (x : Place × Object) : Type 0 where
  of : Input
  number : ℕ
  place_is : x.0 ≡ input number
  at : slice_get whole number ≡ Some of
  among : Has named (of, x.1)
  may : is_written of ≡ true

of-more : (whole : List Input) (named : List (Input × Object)) (y : Input × Object) (x : Place × Object) → IsOf whole named x → IsOf whole (y ∷ named) x
of-more whole named y x it = record { of = it.of; number = it.number; place_is = it.place_is; at = it.at; among = inr it.among; may = it.may }

of-here : (whole : List Input) (n : ℕ) (i : Input) (is : List Input) (o : Object) (rest : List (Input × Object)) (x : Place × Object) → is_written i ≡ true → From whole n (i ∷ is) → (input n, o) ≡ x → IsOf whole ((i, o) ∷ rest) x
of-here whole n i is o rest x may from e = record {
  of = i;
  number = n;
  place_is = sym (ap (λ (y : Place × Object). y.0) e);
  at = from-here whole n i is from;
  among = inl (ap (λ (y : Place × Object). (i, y.1)) e);
  may = may;
}

of-input : (whole : List Input) (n : ℕ) (is : List Input) (os : List Object) (x : Place × Object) → From whole n is → Has (written_inputs n is os) x → IsOf whole (zip (filter is_object is) os) x
of-input whole n [] os x from h = absurd h
of-input whole n (inputs.Pure bytes ∷ is) os x from h = of-input whole (suc n) is os x (from-next whole n (inputs.Pure bytes) is from) h
of-input whole n (inputs.Owned r ∷ is) [] x from h = absurd h
of-input whole n (inputs.Owned r ∷ is) (o ∷ os) x from (inl e) = of-here whole n (inputs.Owned r) is o (zip (filter is_object is) os) x refl from e
of-input whole n (inputs.Owned r ∷ is) (o ∷ os) x from (inr h) = of-more whole (zip (filter is_object is) os) (inputs.Owned r, o) x (of-input whole (suc n) is os x (from-next whole n (inputs.Owned r) is from) h)
of-input whole n (inputs.Immutable r ∷ is) [] x from h = absurd h
of-input whole n (inputs.Immutable r ∷ is) (o ∷ os) x from h = of-more whole (zip (filter is_object is) os) (inputs.Immutable r, o) x (of-input whole (suc n) is os x (from-next whole n (inputs.Immutable r) is from) h)
of-input whole n (inputs.Shared id k mutable ∷ is) [] x from h = absurd h
of-input whole n (inputs.Shared id k true ∷ is) (o ∷ os) x from (inl e) = of-here whole n (inputs.Shared id k true) is o (zip (filter is_object is) os) x refl from e
of-input whole n (inputs.Shared id k true ∷ is) (o ∷ os) x from (inr h) = of-more whole (zip (filter is_object is) os) (inputs.Shared id k true, o) x (of-input whole (suc n) is os x (from-next whole n (inputs.Shared id k true) is from) h)
of-input whole n (inputs.Shared id k false ∷ is) (o ∷ os) x from h = of-more whole (zip (filter is_object is) os) (inputs.Shared id k false, o) x (of-input whole (suc n) is os x (from-next whole n (inputs.Shared id k false) is from) h)

-- ---- what was done

module _ (t : Transaction) (objects : List Object) (fit : fits t objects ≡ true) (b : Block) (done : outcome t (transaction_digest t) objects ≡ Ok b) where
  owned-alone : (i : Input) (o : Object) → Has (zip (objects_of t) objects) (i, o) → (fits_input t i o ≡ true → is_owned_by t.sender o.owner ≡ true) → shared_since o.owner ≡ None
  owned-alone i o h owned = owned-not-shared t o o.owner (owned (fit-at t (objects_of t) objects i o (fits-first t objects fit) h))

  -- an object that left its place was not shared
  gone-input : (x : Place × Object) (n : ℕ) → x.0 ≡ input n → (i : Input) → slice_get t.inputs n ≡ Some i → is_written i ≡ true → Has (zip (objects_of t) objects) (i, x.1) → Has (written_places t objects) x → piece_of (value_in x.0 b.slots) ≡ None → shared_since x.1.owner ≡ None
  gone-input x n place (inputs.Pure bytes) at may named there gone = absurd (cc)
  gone-input x n place (inputs.Owned r) at may named there gone = owned-alone (inputs.Owned r) x.1 named (λ f. and-second (id_eq x.1.id r.id && (x.1.version == r.version) && digest_eq (digest_of_object x.1) r.digest) (is_owned_by t.sender x.1.owner) f)
  gone-input x n place (inputs.Immutable r) at may named there gone = absurd (cc)
  gone-input x n place (inputs.Shared id k false) at may named there gone = absurd (cc)
  gone-input x n place (inputs.Shared id k true) at may named there gone = absurd (stays (subst (λ (p : Place). IsOrigin (first_slots t objects) (p, x.1)) place origin) (subst (λ (p : Place). piece_of (value_in p b.slots) ≡ None) place gone))
    where
      origin : IsOrigin (first_slots t objects) x
      origin = each_has (IsOrigin (first_slots t objects)) (written_places t objects) x (origins t objects) there

      stays : IsOrigin (first_slots t objects) (input n, x.1) → piece_of (value_in (input n) b.slots) ≡ None → ⊥
      stays origin none =
          let kept = (done-is t (transaction_digest t) objects b done).kept in
          let s = still t (first_slots t objects) b n id k x.1 at origin kept.good kept.stands in
          let some = ap piece_of s.there in
          cc

  -- what is in its place, or left it, has its share
  abbrev IsPlaced : (Place × Object) → Type 0
  IsPlaced x = (i : Input) × Has (zip (objects_of t) objects) (i, x.1) × (piece_of (value_in x.0 b.slots) ≡ None → shared_since x.1.owner ≡ None)

  placed : (os : List Object) → os ≡ objects → (x : Place × Object) → Has (written_places t os) x → IsPlaced x
  placed [] e x h = absurd h
  placed (coin ∷ os) e x h = subst (λ (zs : List Object). (Has (written_places t zs) x → IsPlaced x)) e (go e) (subst (λ (zs : List Object). Has (written_places t zs) x) e h)
    where
      go : (coin ∷ os) ≡ objects → Has (written_places t (coin ∷ os)) x → IsPlaced x
      go e (inl q) = (inputs.Owned t.gas, named, λ none. owned-alone (inputs.Owned t.gas) x.1 named (λ f. and-second (id_eq x.1.id t.gas.id && (x.1.version == t.gas.version) && digest_eq (digest_of_object x.1) t.gas.digest) (is_owned_by t.sender x.1.owner) f))
        where
          named : Has (zip (objects_of t) objects) (inputs.Owned t.gas, x.1)
          named = subst (λ (zs : List Object). Has (zip (objects_of t) zs) (inputs.Owned t.gas, x.1)) e (inl (ap (λ (y : Place × Object). (inputs.Owned t.gas, y.1)) q))
      go e (inr k) =
          let it = of-input t.inputs 0 t.inputs os x (λ k. at-index t.inputs (0 + k) k (omega arith)) k in
          let named : Has (zip (objects_of t) objects) (it.of, x.1) = subst (λ (zs : List Object). Has (zip (objects_of t) zs) (it.of, x.1)) e (inr it.among) in
          (it.of, named, λ none. gone-input x it.number it.place_is it.of it.at it.may named (subst (λ (zs : List Object). Has (written_places t zs) x) e (inr k)) none)

  module _ (apart : repeats id_eq (named_ids t ++ drawn_ids (transaction_digest t) b.made) ≡ false) where
    never-drawn : (i : Input) (o : Object) → Has (zip (objects_of t) objects) (i, o) → IsDrawn (transaction_digest t) (version_of objects) b.made o.id → ⊥
    never-drawn i o named drawn =
        not-both (named_ids t) (drawn_ids (transaction_digest t) b.made) o.id apart
        (subst (λ (ids : List ObjectId). Has ids o.id) (objects-ids t objects fit) (has_map id_of objects o (second (objects_of t) objects i o named)))
        (subst (Has (drawn_ids (transaction_digest t) b.made)) drawn.2 (has_map (drawn_id (transaction_digest t)) (numbers_below b.made) drawn.0 (is_below b.made drawn.0 drawn.1)))

    left-share : (x : Place × Object) (i : Input) → Has (zip (objects_of t) objects) (i, x.1) → shared_since x.1.owner ≡ None → (id : ObjectId) → id ≡ x.1.id → (who : Owner) → Left (transaction_digest t) (version_of objects) b.made id who → shared_since x.1.owner ≡ shared_since who
    left-share x i named none id same (owner.Address a) l = none
    left-share x i named none id same (owner.Shared k) l = absurd (never-drawn i x.1 named (subst (IsDrawn (transaction_digest t) (version_of objects) b.made) same l.1))
    left-share x i named none id same owner.Immutable l = none

    went-share : (x : Place × Object) (i : Input) → Has (zip (objects_of t) objects) (i, x.1) → shared_since x.1.owner ≡ None → (q : Object) → left_in (version_of objects) b.placed x.1.id ≡ Some q → shared_since x.1.owner ≡ shared_since q.owner
    went-share x i named none q e = go (find (λ (p : Placed). id_eq p.item.id x.1.id) b.placed) refl e
      where
        same : (p : Placed) → Some (object_at (version_of objects) p.owner p.item) ≡ Some q → object_at (version_of objects) p.owner p.item ≡ q
        same p e = cc

        go : (f : Option Placed) → find (λ (p : Placed). id_eq p.item.id x.1.id) b.placed ≡ f → option_map (λ (p : Placed). object_at (version_of objects) p.owner p.item) f ≡ Some q → shared_since x.1.owner ≡ shared_since q.owner
        go None h e = absurd (cc)
        go (Some p) h e =
            left-share x i named none p.item.id (id_same p.item.id x.1.id (find-test (λ (r : Placed). id_eq r.item.id x.1.id) b.placed p h)) p.owner
            (each_has (HasLeft (transaction_digest t) (version_of objects) b.made) b.placed p (ends-tracked t (transaction_digest t) objects b done).placed (find_has (λ (r : Placed). id_eq r.item.id x.1.id) b.placed p h))
            ∙ ap (λ (y : Object). shared_since y.owner) (same p e)

    after-share : (x : Place × Object) → IsPlaced x → (q : Object) → after_block (version_of objects) b x.0 x.1 ≡ Some q → shared_since x.1.owner ≡ shared_since q.owner
    after-share x it q e = go (piece_of (value_in x.0 b.slots)) refl e
      where
        same : (now : Item) → Some (object_at (version_of objects) x.1.owner now) ≡ Some q → object_at (version_of objects) x.1.owner now ≡ q
        same now e = cc

        go : (piece : Option Item) → piece_of (value_in x.0 b.slots) ≡ piece → now_in (version_of objects) b.placed x.1 piece ≡ Some q → shared_since x.1.owner ≡ shared_since q.owner
        go (Some now) h e = ap (λ (y : Object). shared_since y.owner) (same now e)
        go None h e = went-share x it.0 it.1 (it.2 h) q e

    place-named : (q : Object) → Has (filter_map (λ (x : Place × Object). after_block (version_of objects) b x.0 x.1) (written_places t objects)) q → IsAsNamed t objects q
    place-named q h =
        let from = chosen-from (λ (x : Place × Object). after_block (version_of objects) b x.0 x.1) (written_places t objects) q h in
        let it = placed objects refl from.0 from.1 in
        record {
          of = it.0;
          before = from.0.1;
          named = it.1;
          id = sym (after-id t (first_slots t objects) (version_of objects) b from.0 q (each_has (IsOrigin (first_slots t objects)) (written_places t objects) from.0 (origins t objects) from.1) (done-is t (transaction_digest t) objects b done).kept.good from.2);
          share = after-share from.0 it q from.2;
        }

    abbrev IsDrawnIn : Object → Type 0
    IsDrawnIn p = (n : ℕ) × (n < b.made) × (drawn_id (transaction_digest t) n ≡ p.id) × IsSharedFrom (version_of objects) p.owner

    from-left : (id : ObjectId) (who : Owner) → Left (transaction_digest t) (version_of objects) b.made id who → IsSharedFrom (version_of objects) who
    from-left id (owner.Address a) l = tt
    from-left id (owner.Shared k) l = l.0
    from-left id owner.Immutable l = tt

    created-from : (id : ObjectId) (p : Object) → left_in (version_of objects) b.placed id ≡ Some p → IsSharedFrom (version_of objects) p.owner
    created-from id p e = go (find (λ (r : Placed). id_eq r.item.id id) b.placed) refl e
      where
        same : (r : Placed) → Some (object_at (version_of objects) r.owner r.item) ≡ Some p → object_at (version_of objects) r.owner r.item ≡ p
        same r e = cc

        go : (f : Option Placed) → find (λ (r : Placed). id_eq r.item.id id) b.placed ≡ f → option_map (λ (r : Placed). object_at (version_of objects) r.owner r.item) f ≡ Some p → IsSharedFrom (version_of objects) p.owner
        go None h e = absurd (cc)
        go (Some r) h e = subst (λ (y : Object). IsSharedFrom (version_of objects) y.owner) (same r e)
            (from-left r.item.id r.owner (each_has (HasLeft (transaction_digest t) (version_of objects) b.made) b.placed r (ends-tracked t (transaction_digest t) objects b done).placed (find_has (λ (z : Placed). id_eq z.item.id id) b.placed r h)))

    created-new : (p : Object) → Has (created_objects (transaction_digest t) (version_of objects) b) p → IsDrawnIn p
    created-new p h =
        let from = chosen-from (λ n. left_in (version_of objects) b.placed (drawn_id (transaction_digest t) n)) (numbers_below b.made) p h in
        (from.0, below b.made from.0 from.1, sym (left-id (version_of objects) b.placed (drawn_id (transaction_digest t) from.0) p from.2), created-from (drawn_id (transaction_digest t) from.0) p from.2)

-- ---- the first object differs in its content

like-named : (t : Transaction) (objects : List Object) (q p : Object) → q.id ≡ p.id → q.owner ≡ p.owner → IsAsNamed t objects q → IsAsNamed t objects p
like-named t objects q p id who it = record { of = it.of; before = it.before; named = it.named; id = it.id ∙ id; share = it.share ∙ ap shared_since who }

abbrev IsLike : List Object → Object → Type 0
IsLike os p = (q : Object) × Has os q × (q.id ≡ p.id) × (q.owner ≡ p.owner)

rest-like : (t : Transaction) (os : List Object) (p : Object) → Has (with_rest_first t os) p → IsLike os p
rest-like t [] p h = absurd h
rest-like t (q ∷ os) p (inl e) = (q, inl refl, ap (λ (y : Object). y.id) e, ap (λ (y : Object). y.owner) e)
rest-like t (q ∷ os) p (inr h) = (p, inr h, refl, refl)

cost-like : (t : Transaction) (os : List Object) (p : Object) → Has (less_cost_first t os) p → IsLike os p
cost-like t [] p h = absurd h
cost-like t (q ∷ os) p (inl e) = (q, inl refl, ap (λ (y : Object). y.id) e, ap (λ (y : Object). y.owner) e)
cost-like t (q ∷ os) p (inr h) = (p, inr h, refl, refl)

-- ---- in failure all objects stay as they were

named-at : (t : Transaction) (os : List Object) (x : Place × Object) → Has (written_places t os) x → (i : Input) × Has (zip (objects_of t) os) (i, x.1)
named-at t [] x h = absurd h
named-at t (coin ∷ os) x (inl e) = (inputs.Owned t.gas, inl (ap (λ (y : Place × Object). (inputs.Owned t.gas, y.1)) e))
named-at t (coin ∷ os) x (inr k) = let it = of-input t.inputs 0 t.inputs os x (λ k. at-index t.inputs (0 + k) k (omega arith)) k in (it.of, inr it.among)

failed-named : (t : Transaction) (objects : List Object) (q : Object) → Has (map (λ (x : Place × Object). same_object (version_of objects) x.1) (written_places t objects)) q → IsAsNamed t objects q
failed-named t objects q h =
    let from = has_mapped (λ (x : Place × Object). same_object (version_of objects) x.1) (written_places t objects) q h in
    let it = named-at t objects from.0 from.1 in
    record { of = it.0; before = from.0.1; named = it.1; id = ap (λ (y : Object). y.id) from.2; share = ap (λ (y : Object). shared_since y.owner) from.2 }

-- ---- every written object

module _ (t : Transaction) (objects : List Object) (fit : fits t objects ≡ true) (p : Object) where
  abbrev IsNewIn : Result Block Failure → Type 0
  IsNewIn r = (n : ℕ) × (n < (executed_by t (transaction_digest t) objects r).effects.created) × (drawn_id (transaction_digest t) n ≡ p.id) × IsSharedFrom (version_of objects) p.owner

  by-outcome : (r : Result Block Failure) → outcome t (transaction_digest t) objects ≡ r → repeats id_eq (touched_ids t (executed_by t (transaction_digest t) objects r).effects) ≡ false → Has (executed_by t (transaction_digest t) objects r).objects p → IsAsNamed t objects p ⊎ IsNewIn r
  by-outcome (Ok b) done apart h = go (has_parts (with_rest_first t (filter_map (λ (x : Place × Object). after_block (version_of objects) b x.0 x.1) (written_places t objects))) (created_objects (transaction_digest t) (version_of objects) b) p h)
    where
      go : Has (with_rest_first t (filter_map (λ (x : Place × Object). after_block (version_of objects) b x.0 x.1) (written_places t objects))) p ⊎ Has (created_objects (transaction_digest t) (version_of objects) b) p → IsAsNamed t objects p ⊎ IsNewIn (Ok b)
      go (inl k) =
          let like = rest-like t (filter_map (λ (x : Place × Object). after_block (version_of objects) b x.0 x.1) (written_places t objects)) p k in
          inl (like-named t objects like.0 p like.2 like.3 (place-named t objects fit b done apart like.0 like.1))
      go (inr k) = inr (created-new t objects fit b done apart p k)
  by-outcome (Err failure) done apart h =
      let like = cost-like t (map (λ (x : Place × Object). same_object (version_of objects) x.1) (written_places t objects)) p h in
      inl (like-named t objects like.0 p like.2 like.3 (failed-named t objects like.0 like.1))

pub stay-shared : (t : Transaction) (objects : List Object) → fits t objects ≡ true → repeats id_eq (touched_ids t (execution t objects).effects) ≡ false → (p : Object) → Has (execution t objects).objects p → IsAsNamed t objects p ⊎ IsNew t objects p
unfolding execution
stay-shared t objects fit apart p h = go (by-outcome t objects fit p (outcome t (transaction_digest t) objects) refl apart h)
  where
    go : IsAsNamed t objects p ⊎ IsNewIn t objects fit p (outcome t (transaction_digest t) objects) → IsAsNamed t objects p ⊎ IsNew t objects p
    go (inl it) = inl it
    go (inr (n, less, id, share)) = inr (record { number = n; drew = less; id = id; share = share })
