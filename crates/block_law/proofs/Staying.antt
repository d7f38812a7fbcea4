-- What a list of transactions neither names nor draws stays in the map.
use Rattle.std.proofs.Common.{refl, ap, subst, ◌∙◌}
use Rattle.std.specs.Prelude.{◌≡◌, Bool, true, false, cond, ◌||◌, List, [], ◌∷◌, ◌++◌, map, fold, Option, Some, None}
use Rattle.std.specs.FinMap.{get, get-insert, get-remove}
use Rattle.std.specs.Ordering.{eq_by_cmp}
use Rattle.std.specs.Cmp.{IsTotalOrder}
use Rattle.std.specs.Cmp.Lexicographic.{nat_list_cmp_total}
use Rattle.chain_types.specs.declared.objects.ObjectId.{ObjectId}
use Rattle.chain_types.specs.declared.objects.Object.{Object}
use Rattle.chain_types.specs.declared.transactions.Transaction.{Transaction}
use Rattle.effects_core.specs.declared.effects.Effects.{Effects}
use Rattle.effects_core.specs.declared.effects.Written.{Written}
use Rattle.chain_types.specs.Equal.{id_eq}
use Rattle.protocol_spec.proofs.ListLemmas.{each_front}
use Rattle.protocol_spec.proofs.Truth.{or_false_left, or_false_right}
use Rattle.protocol_spec.specs.Chain.Words.{Each}
use Rattle.protocol_spec.specs.Chain.Tests.{has_id}
use Rattle.protocol_spec.specs.Chain.Keys.{fits, named_ids}
use Rattle.protocol_spec.specs.Block.Execution.{execution}
use Rattle.protocol_spec.specs.Member.Versions.{id_cmp}
use Rattle.protocol_spec.specs.Member.Sequential.{Objects, with_object, without_id, read_by, map_after, Folded, without_effects, with_execution, executed_on, fold_one, fold_all}
use Rattle.block_law.specs.Names.{drawn_ids}
use Rattle.block_law.proofs.Counts.{id_equal}
use Rattle.block_law.proofs.Effects.{id_of, written-ids, written-are, name_touched}
use Rattle.block_law.proofs.Standing.{ids-tie}
use Rattle.block_law.specs.Untouched.{NamesNot, DrawsNot}

-- ---- the order of ids

pub ids-total : IsTotalOrder id_cmp
ids-total = record {
  antisymm = λ x y. nat_list_cmp_total.antisymm x.0.0 y.0.0;
  trans = λ x y z. nat_list_cmp_total.trans x.0.0 y.0.0 z.0.0;
  congr = λ x y z. nat_list_cmp_total.congr x.0.0 y.0.0 z.0.0;
}

pub ids-apart : (a b : ObjectId) → id_eq a b ≡ false → eq_by_cmp id_cmp a b ≡ false
ids-apart a b e = go (eq_by_cmp id_cmp a b) refl
  where
    go : (x : Bool) → eq_by_cmp id_cmp a b ≡ x → x ≡ false
    go true h = absurd (let same = id_equal a b (ids-tie a b h) in cc)
    go false h = refl

-- ---- other entries

stays-with : (m : Objects) (os : List Object) (id : ObjectId) → has_id (map id_of os) id ≡ false → get (fold with_object m os) id ≡ get m id
stays-with m [] id none = refl
stays-with m (o ∷ os) id none =
    stays-with (with_object m o) os id (or_false_right (id_eq id o.id) (has_id (map id_of os) id) none)
    ∙ get-insert ids-total m o.id o id
    ∙ ap (λ b. cond b (Some o) (get m id)) (ids-apart id o.id (or_false_left (id_eq id o.id) (has_id (map id_of os) id) none))

stays-without : (m : Objects) (ids : List ObjectId) (id : ObjectId) → has_id ids id ≡ false → get (fold without_id m ids) id ≡ get m id
stays-without m [] id none = refl
stays-without m (i ∷ ids) id none =
    stays-without (without_id m i) ids id (or_false_right (id_eq id i) (has_id ids id) none)
    ∙ get-remove ids-total m i id
    ∙ ap (λ b. cond b None (get m id)) (ids-apart id i (or_false_left (id_eq id i) (has_id ids id) none))

-- ---- tests of joined lists

any-joined : (id : ObjectId) (xs ys : List ObjectId) → has_id xs id ≡ false → has_id ys id ≡ false → has_id (xs ++ ys) id ≡ false
any-joined id [] ys none more = more
any-joined id (x ∷ xs) ys none more = go (id_eq id x) none (any-joined id xs ys (or_false_right (id_eq id x) (has_id xs id) none) more)
  where
    go : (b : Bool) → (b || has_id xs id) ≡ false → has_id (xs ++ ys) id ≡ false → (b || has_id (xs ++ ys) id) ≡ false
    go true e rest = absurd (cc)
    go false e rest = rest

any-parts : (id : ObjectId) (xs ys : List ObjectId) → has_id (xs ++ ys) id ≡ false → (has_id xs id ≡ false) × (has_id ys id ≡ false)
any-parts id [] ys none = (refl, none)
any-parts id (x ∷ xs) ys none = go (id_eq id x) none (any-parts id xs ys (or_false_right (id_eq id x) (has_id (xs ++ ys) id) none))
  where
    go : (b : Bool) → (b || has_id (xs ++ ys) id) ≡ false → (has_id xs id ≡ false) × (has_id ys id ≡ false) → ((b || has_id xs id) ≡ false) × (has_id ys id ≡ false)
    go true e rest = absurd (cc)
    go false e rest = rest

-- ---- one execution

stays-executed : (m : Objects) (t : Transaction) (objects : List Object) (id : ObjectId) → fits t objects ≡ true → NamesNot id t → DrawsNot id (Some (execution t objects).effects) → get (map_after m (execution t objects)) id ≡ get m id
stays-executed m t objects id fit names draws =
    let none = any-parts id (map (λ (w : Written). w.id) (execution t objects).effects.written) (execution t objects).effects.deleted
    (name_touched t objects fit id (any-joined id (named_ids t) (drawn_ids (execution t objects).effects.tx (execution t objects).effects.created) names draws)) in
    let ids : map (λ (w : Written). w.id) (execution t objects).effects.written ≡ map id_of (execution t objects).objects =
    ap (map (λ (w : Written). w.id)) (written-are t objects) ∙ written-ids (execution t objects).objects in
    stays-without (fold with_object m (execution t objects).objects) (execution t objects).effects.deleted id none.1
    ∙ stays-with m (execution t objects).objects id (subst (λ is. has_id is id ≡ false) ids none.0)

-- ---- all of them

each-last : {A : Type 0} (P : A → Type 0) (xs : List A) (y : A) → Each P (xs ++ y ∷ []) → P y
each-last P [] y each = each.0
each-last P (x ∷ xs) y each = each-last P xs y each.1

-- effects are added at the end
effects-front : (P : Option Effects → Type 0) (f : Folded) (t : Transaction) → Each P (fold_one f t).effects → Each P f.effects
unfolding fold_one
effects-front P f t each = go (read_by f.map t) each
  where
    fitting : (b : Bool) (objects : List Object) → Each P (cond b (with_execution f (execution t objects)) (without_effects f)).effects → Each P f.effects
    fitting true objects each = each_front P f.effects (Some (execution t objects).effects ∷ []) each
    fitting false objects each = each_front P f.effects (None ∷ []) each

    go : (read : Option (List Object)) → Each P (executed_on f t read).effects → Each P f.effects
    go None each = each_front P f.effects (None ∷ []) each
    go (Some objects) each = fitting (fits t objects) objects each

all-front : (P : Option Effects → Type 0) (txs : List Transaction) (f : Folded) → Each P (fold fold_one f txs).effects → Each P f.effects
all-front P [] f each = each
all-front P (t ∷ txs) f each = effects-front P f t (all-front P txs (fold_one f t) each)

stays-one : (f : Folded) (t : Transaction) (id : ObjectId) → NamesNot id t → Each (DrawsNot id) (fold_one f t).effects → get (fold_one f t).map id ≡ get f.map id
unfolding fold_one
stays-one f t id names draws = go (read_by f.map t) draws
  where
    fitting : (b : Bool) (objects : List Object) → fits t objects ≡ b → Each (DrawsNot id) (cond b (with_execution f (execution t objects)) (without_effects f)).effects → get (cond b (with_execution f (execution t objects)) (without_effects f)).map id ≡ get f.map id
    fitting true objects fit draws = stays-executed f.map t objects id fit names (each-last (DrawsNot id) f.effects (Some (execution t objects).effects) draws)
    fitting false objects fit draws = refl

    go : (read : Option (List Object)) → Each (DrawsNot id) (executed_on f t read).effects → get (executed_on f t read).map id ≡ get f.map id
    go None draws = refl
    go (Some objects) draws = fitting (fits t objects) objects refl draws

stays-all : (txs : List Transaction) (f : Folded) (id : ObjectId) → Each (NamesNot id) txs → Each (DrawsNot id) (fold fold_one f txs).effects → get (fold fold_one f txs).map id ≡ get f.map id
stays-all [] f id names draws = refl
stays-all (t ∷ txs) f id names draws = stays-all txs (fold_one f t) id names.1 draws ∙ stays-one f t id names.0 (all-front (DrawsNot id) txs (fold_one f t) draws)

pub stays : (m : Objects) (txs : List Transaction) (id : ObjectId) → Each (NamesNot id) txs → Each (DrawsNot id) (fold_all m txs).effects → get (fold_all m txs).map id ≡ get m id
unfolding fold_all
stays m txs id names draws = stays-all txs (record { map = m; effects = [] }) id names draws
