-- What an execution writes stands in the map after it, and what it does not touch stays there.
use Rattle.std.proofs.Common.{inl, inr, refl, ap, subst, sym, ◌∙◌}
use Rattle.std.specs.Prelude.{◌≡◌, Bool, true, false, cond, ◌||◌, List, [], ◌∷◌, ◌++◌, map, fold, Some, None}
use Rattle.std.specs.FinMap.{get, empty, get-empty, get-insert, get-remove}
use Rattle.std.specs.Ordering.{nat_cmp, is_eq, eq_by_cmp}
use Rattle.std.specs.declared.cmp.Ordering.{Ordering}
use Rattle.std.specs.declared.cmp.Ordering.TheVariants.{Less, Equal, Greater}
use Rattle.std.specs.Cmp.{IsTotalOrder, eq_by_cmp_equiv}
use Rattle.std.specs.Cmp.Lexicographic.{slice_cmp, nat_list_cmp_total}
use Rattle.chain_types.specs.declared.objects.ObjectId.{ObjectId}
use Rattle.chain_types.specs.declared.objects.Object.{Object}
use Rattle.protocol_spec.specs.declared.pieces.Executed.{Executed}
use Rattle.chain_types.specs.Equal.{id_eq}
use Rattle.protocol_spec.proofs.Equality.{ids_unique}
use Rattle.protocol_spec.proofs.ListLemmas.{append_nil}
use Rattle.protocol_spec.proofs.Truth.{or_false_left, or_false_right}
use Rattle.protocol_spec.specs.Chain.Words.{Has, repeats}
use Rattle.protocol_spec.specs.Chain.Tests.{has_id}
use Rattle.protocol_spec.specs.Member.Versions.{id_cmp}
use Rattle.protocol_spec.specs.Member.Sequential.{Objects, with_object, without_id, map_of, map_after}
use Rattle.block_law.proofs.Counts.{id_equal}
use Rattle.block_law.specs.Orderly.{id_of, AreApart}

-- ---- the order of ids

pub ids-total : IsTotalOrder id_cmp
ids-total = record {
  antisymm = λ x y. nat_list_cmp_total.antisymm x.0.0 y.0.0;
  trans = λ x y z. nat_list_cmp_total.trans x.0.0 y.0.0 z.0.0;
  congr = λ x y z. nat_list_cmp_total.congr x.0.0 y.0.0 z.0.0;
}

pub is-equal : (r : Ordering) → is_eq r ≡ true → r ≡ Equal
is-equal Less e = absurd (cc)
is-equal Equal e = refl
is-equal Greater e = absurd (cc)

pub ids-tie : (a b : ObjectId) → eq_by_cmp id_cmp a b ≡ true → a ≡ b
ids-tie a b e = ids_unique a b (is-equal (slice_cmp nat_cmp a.0.0 b.0.0) e)

ids-apart : (a b : ObjectId) → id_eq a b ≡ false → eq_by_cmp id_cmp a b ≡ false
ids-apart a b e = go (eq_by_cmp id_cmp a b) refl
  where
    go : (x : Bool) → eq_by_cmp id_cmp a b ≡ x → x ≡ false
    go true h = absurd (let same = id_equal a b (ids-tie a b h) in cc)
    go false h = refl

pub ids-same : (a : ObjectId) → eq_by_cmp id_cmp a a ≡ true
ids-same a = (eq_by_cmp_equiv ids-total).refl a

-- ---- other entries

pub stays-with : (m : Objects) (os : List Object) (id : ObjectId) → has_id (map id_of os) id ≡ false → get (fold with_object m os) id ≡ get m id
stays-with m [] id none = refl
stays-with m (o ∷ os) id none =
    stays-with (with_object m o) os id (or_false_right (id_eq id o.id) (has_id (map id_of os) id) none)
    ∙ get-insert ids-total m o.id o id
    ∙ ap (λ b. cond b (Some o) (get m id)) (ids-apart id o.id (or_false_left (id_eq id o.id) (has_id (map id_of os) id) none))

stays-without : (m : Objects) (ids : List ObjectId) (id : ObjectId) → has_id ids id ≡ false → get (fold without_id m ids) id ≡ get m id
stays-without m [] id none = refl
stays-without m (i ∷ ids) id none =
    stays-without (without_id m i) ids id (or_false_right (id_eq id i) (has_id ids id) none)
    ∙ get-remove ids-total m i id
    ∙ ap (λ b. cond b None (get m id)) (ids-apart id i (or_false_left (id_eq id i) (has_id ids id) none))

pub any-parts : (id : ObjectId) (xs ys : List ObjectId) → has_id (xs ++ ys) id ≡ false → (has_id xs id ≡ false) × (has_id ys id ≡ false)
any-parts id [] ys none = (refl, none)
any-parts id (x ∷ xs) ys none = go (id_eq id x) none (any-parts id xs ys (or_false_right (id_eq id x) (has_id (xs ++ ys) id) none))
  where
    go : (b : Bool) → (b || has_id (xs ++ ys) id) ≡ false → (has_id xs id ≡ false) × (has_id ys id ≡ false) → ((b || has_id xs id) ≡ false) × (has_id ys id ≡ false)
    go true e rest = absurd (cc)
    go false e rest = rest

-- what neither writes nor deletes an id leaves it
pub stays-after : (m : Objects) (x : Executed) (id : ObjectId) → has_id (map id_of x.objects ++ x.effects.deleted) id ≡ false → get (map_after m x) id ≡ get m id
stays-after m x id none =
    let parts = any-parts id (map id_of x.objects) x.effects.deleted none in
    stays-without (fold with_object m x.objects) x.effects.deleted id parts.1 ∙ stays-with m x.objects id parts.0

-- ---- written entries

pub here : (m : Objects) (o : Object) → get (with_object m o) o.id ≡ Some o
here m o = get-insert ids-total m o.id o o.id ∙ ap (λ b. cond b (Some o) (get m o.id)) (ids-same o.id)

pub elsewhere : (m : Objects) (o : Object) (id : ObjectId) → id_eq id o.id ≡ false → get (with_object m o) id ≡ get m id
elsewhere m o id e = get-insert ids-total m o.id o id ∙ ap (λ b. cond b (Some o) (get m id)) (ids-apart id o.id e)

-- of objects with different ids each stands under its own
stands-with : (m : Objects) (os : List Object) (more : List ObjectId) (o : Object) → repeats id_eq (map id_of os ++ more) ≡ false → Has os o → (get (fold with_object m os) o.id ≡ Some o) × (has_id more o.id ≡ false)
stands-with m [] more o apart h = absurd h
stands-with m (p ∷ os) more o apart (inr h) = stands-with (with_object m p) os more o (or_false_right (has_id (map id_of os ++ more) p.id) (repeats id_eq (map id_of os ++ more)) apart) h
stands-with m (p ∷ os) more o apart (inl e) =
    let parts = any-parts p.id (map id_of os) more (or_false_left (has_id (map id_of os ++ more) p.id) (repeats id_eq (map id_of os ++ more)) apart) in
    subst (λ (q : Object). (get (fold with_object (with_object m p) os) q.id ≡ Some q) × (has_id more q.id ≡ false)) e
    (stays-with (with_object m p) os p.id parts.0 ∙ here m p, parts.1)

pub stands-after : (m : Objects) (x : Executed) (o : Object) → repeats id_eq (map id_of x.objects ++ x.effects.deleted) ≡ false → Has x.objects o → get (map_after m x) o.id ≡ Some o
stands-after m x o apart h =
    let stands = stands-with m x.objects x.effects.deleted o apart h in
    stays-without (fold with_object m x.objects) x.effects.deleted o.id stands.1 ∙ stands.0

pub stands-opening : (opening : List Object) (o : Object) → AreApart opening → Has opening o → get (map_of opening) o.id ≡ Some o
unfolding map_of
stands-opening opening o apart h = (stands-with empty opening [] o (subst (λ ids. repeats id_eq ids ≡ false) (sym (append_nil (map id_of opening))) apart) h).0

-- ---- deleted entries

none-stays : (m : Objects) (ids : List ObjectId) (id : ObjectId) → get m id ≡ None → get (fold without_id m ids) id ≡ None
none-stays m [] id none = none
none-stays m (i ∷ ids) id none = none-stays (without_id m i) ids id (get-remove ids-total m i id ∙ go (eq_by_cmp id_cmp id i))
  where
    go : (b : Bool) → cond b None (get m id) ≡ None
    go true = refl
    go false = none

gone : (m : Objects) (ids : List ObjectId) (id : ObjectId) → Has ids id → get (fold without_id m ids) id ≡ None
gone m [] id h = absurd h
gone m (i ∷ ids) id (inl e) = none-stays (without_id m i) ids id (get-remove ids-total m i id ∙ ap (λ b. cond b None (get m id)) (subst (λ (z : ObjectId). eq_by_cmp id_cmp id z ≡ true) (sym e) (ids-same id)))
gone m (i ∷ ids) id (inr h) = gone (without_id m i) ids id h

pub gone-after : (m : Objects) (x : Executed) (id : ObjectId) → Has x.effects.deleted id → get (map_after m x) id ≡ None
gone-after m x id h = gone (fold with_object m x.objects) x.effects.deleted id h

-- no opening object has the id
pub none-opening : (opening : List Object) (id : ObjectId) → has_id (map id_of opening) id ≡ false → get (map_of opening) id ≡ None
unfolding map_of
none-opening opening id none = stays-with empty opening id none ∙ get-empty id_cmp id
