-- What the objects of a map weigh together, after a list of transactions.
use Rattle.std.proofs.Common.{refl, ap, sym, subst, ◌∙◌}
use Rattle.std.specs.Prelude.{◌≡◌, ◌+◌, ℕ, Bool, true, false, cond, ◌&&◌, T, List, [], ◌∷◌, ◌++◌, map, fold, Some, None, not}
use Rattle.std.specs.List.{list_any}
use native.Mathlib.Omega.{arith}
use Rattle.std.specs.FinMap.{entries, entries_sorted, values, get, get-entries, remove, get-insert, get-remove, entries-insert, from_sorted, entries-from_sorted, get-from_sorted, same_map}
use Rattle.std.specs.FinMap.Entries.{put, find, where_key, is_sorted, below_all, by_order, is_sorted-where_key, find-where_key}
use Rattle.std.specs.Ordering.{is_eq, is_lt, eq_by_cmp, ordering_reverse}
use Rattle.std.specs.declared.cmp.Ordering.{Ordering}
use Rattle.std.specs.declared.cmp.Ordering.TheVariants.{Less, Equal, Greater}
use Rattle.chain_types.specs.declared.objects.ObjectId.{ObjectId}
use Rattle.chain_types.specs.declared.objects.Object.{Object}
use Rattle.chain_types.specs.declared.objects.Content.{Content}
use Rattle.chain_types.specs.Equal.{id_eq}
use Rattle.protocol_spec.proofs.Equality.{id_back, ids_unique}
use Rattle.protocol_spec.proofs.Truth.{or_false_left, or_false_right}
use Rattle.protocol_spec.specs.Chain.Words.{repeats}
use Rattle.protocol_spec.specs.Member.Versions.{id_cmp}
use Rattle.protocol_spec.specs.Member.Sequential.{Objects, with_object, without_id}
use Rattle.block_law.proofs.Effects.{id_of}
use Rattle.block_law.proofs.Sums.{objects_weight, option_weight}
use Rattle.block_law.proofs.Staying.{ids-total, ids-apart}

-- ---- the entries of a map without one key

reversed-eq : (r : Ordering) → is_eq (ordering_reverse r) ≡ is_eq r
reversed-eq Less = refl
reversed-eq Equal = refl
reversed-eq Greater = refl

turned : {A : Type 0} (b : Bool) (x y : A) → cond b x y ≡ cond (not b) y x
turned true x y = refl
turned false x y = refl

entries-removed : (m : Objects) (k : ObjectId) → entries (remove m k) ≡ where_key id_cmp (λ x. not (eq_by_cmp id_cmp k x)) (entries m)
entries-removed m k = ap entries same ∙ entries-from_sorted id_cmp (where_key id_cmp differs (entries m)) sorted
  where
    differs : ObjectId → Bool
    differs x = not (eq_by_cmp id_cmp k x)

    sorted : T (is_sorted id_cmp (where_key id_cmp differs (entries m)))
    sorted = is_sorted-where_key id_cmp differs (entries m) (entries_sorted m)

    back : (q : ObjectId) → eq_by_cmp id_cmp q k ≡ eq_by_cmp id_cmp k q
    back q = ap is_eq (ids-total.antisymm q k) ∙ reversed-eq (id_cmp k q)

    at : (q : ObjectId) → get (remove m k) q ≡ get (from_sorted {R = id_cmp} (where_key id_cmp differs (entries m))) q
    at q = get-remove ids-total m k q
        ∙ turned (eq_by_cmp id_cmp q k) None (get m q)
        ∙ ap (λ b. cond (not b) (get m q) None) (back q)
        ∙ ap (λ g. cond (differs q) g None) (get-entries m q)
        ∙ sym (find-where_key id_cmp differs q (λ x e. ap differs (sym (ids_unique q x e))) (entries m))
        ∙ sym (get-from_sorted id_cmp (where_key id_cmp differs (entries m)) q sorted)

    same : remove m k ≡ from_sorted {R = id_cmp} (where_key id_cmp differs (entries m))
    same = same_map ids-total ids_unique (remove m k) (from_sorted {R = id_cmp} (where_key id_cmp differs (entries m))) at

-- ---- sums over the entries of a map

module _ (f : Content → ℕ) where
  abbrev entries_weight : List (ObjectId × Object) → ℕ
  entries_weight es = objects_weight f (map (λ (e : ObjectId × Object). e.1) es)

  -- a key before all others is not among them
  none-below : (k x : ObjectId) (es : List (ObjectId × Object)) → ((y : ObjectId) → T (is_lt (id_cmp x y)) → T (is_lt (id_cmp k y))) → T (below_all id_cmp x es) → find id_cmp k es ≡ None
  none-below k x [] less below = refl
  none-below k x (e ∷ es) less below = go (id_cmp k e.0) refl (less e.0 (first-of (is_lt (id_cmp x e.0)) (below_all id_cmp x es) below)) (none-below k x es less (second-of (is_lt (id_cmp x e.0)) (below_all id_cmp x es) below))
    where
      first-of : (a b : Bool) → T (a && b) → T a
      first-of true b p = tt
      first-of false b p = absurd p

      second-of : (a b : Bool) → T (a && b) → T b
      second-of true b p = p
      second-of false b p = absurd p

      go : (r : Ordering) → id_cmp k e.0 ≡ r → T (is_lt (id_cmp k e.0)) → find id_cmp k es ≡ None → cond (is_eq (id_cmp k e.0)) (Some e.1) (find id_cmp k es) ≡ None
      go Less h lt rest = rw h rest
      go Equal h lt rest = absurd (subst (λ (r : Ordering). T (is_lt r)) h lt)
      go Greater h lt rest = absurd (subst (λ (r : Ordering). T (is_lt r)) h lt)

  both-parts : (a b : Bool) → T (a && b) → T a × T b
  both-parts true b p = (tt, p)
  both-parts false b p = absurd p

  less-is : (r : Ordering) → T (is_lt r) → r ≡ Less
  less-is Less p = refl
  less-is Equal p = absurd p
  less-is Greater p = absurd p

  below-less : (k x : ObjectId) → id_cmp k x ≡ Less → (y : ObjectId) → T (is_lt (id_cmp x y)) → T (is_lt (id_cmp k y))
  below-less k x e y lt = subst (λ (r : Ordering). T (is_lt r)) (sym (ids-total.trans k x y e (less-is (id_cmp x y) lt))) tt

  below-tied : (k x : ObjectId) → id_cmp k x ≡ Equal → (y : ObjectId) → T (is_lt (id_cmp x y)) → T (is_lt (id_cmp k y))
  below-tied k x e y lt = subst (λ (r : Ordering). T (is_lt r)) (sym (ids-total.congr k x y e)) lt

  put-weight : (k : ObjectId) (o : Object) (es : List (ObjectId × Object)) → T (is_sorted id_cmp es) → entries_weight (put id_cmp k o es) + option_weight f (find id_cmp k es) ≡ entries_weight es + f o.content
  put-weight k o [] sorted = omega arith
  put-weight k o (e ∷ es) sorted = go (id_cmp k e.0) refl (put-weight k o es (both-parts (below_all id_cmp e.0 es) (is_sorted id_cmp es) sorted).1)
    where
      below : T (below_all id_cmp e.0 es)
      below = (both-parts (below_all id_cmp e.0 es) (is_sorted id_cmp es) sorted).0

      go : (r : Ordering) → id_cmp k e.0 ≡ r → entries_weight (put id_cmp k o es) + option_weight f (find id_cmp k es) ≡ entries_weight es + f o.content
          → entries_weight (by_order r ((k, o) ∷ e ∷ es) ((e.0, o) ∷ es) (e ∷ put id_cmp k o es)) + option_weight f (cond (is_eq r) (Some e.1) (find id_cmp k es)) ≡ (f e.1.content + entries_weight es) + f o.content
      go Less h rest = let none = ap (option_weight f) (none-below k e.0 es (below-less k e.0 h) below) in omega (arith, none)
      go Equal h rest = omega arith
      go Greater h rest = omega (arith, rest)

  drop-weight : (k : ObjectId) (es : List (ObjectId × Object)) → T (is_sorted id_cmp es) → entries_weight (where_key id_cmp (λ x. not (eq_by_cmp id_cmp k x)) es) + option_weight f (find id_cmp k es) ≡ entries_weight es
  drop-weight k [] sorted = refl
  drop-weight k (e ∷ es) sorted = go (id_cmp k e.0) refl (drop-weight k es (both-parts (below_all id_cmp e.0 es) (is_sorted id_cmp es) sorted).1)
    where
      below : T (below_all id_cmp e.0 es)
      below = (both-parts (below_all id_cmp e.0 es) (is_sorted id_cmp es) sorted).0

      others : List (ObjectId × Object)
      others = where_key id_cmp (λ x. not (eq_by_cmp id_cmp k x)) es

      go : (r : Ordering) → id_cmp k e.0 ≡ r → entries_weight others + option_weight f (find id_cmp k es) ≡ entries_weight es
          → entries_weight (cond (not (is_eq r)) (e ∷ others) others) + option_weight f (cond (is_eq r) (Some e.1) (find id_cmp k es)) ≡ f e.1.content + entries_weight es
      go Less h rest = omega (arith, rest)
      go Equal h rest = let none = ap (option_weight f) (none-below k e.0 es (below-tied k e.0 h) below) in omega (arith, rest, none)
      go Greater h rest = omega (arith, rest)

  -- ---- likewise for a map

  abbrev pub map_weight : Objects → ℕ
  map_weight m = objects_weight f (values m)

  abbrev pub at_id : Objects → ObjectId → ℕ
  at_id m id = option_weight f (get m id)

  insert-weight : (m : Objects) (o : Object) → map_weight (with_object m o) + at_id m o.id ≡ map_weight m + f o.content
  insert-weight m o =
      let list = ap entries_weight (entries-insert ids-total m o.id o) in
      let found = ap (option_weight f) (get-entries m o.id) in
      let sum = put-weight o.id o (entries m) (entries_sorted m) in
      omega (arith, list, found, sum)

  remove-weight : (m : Objects) (id : ObjectId) → map_weight (without_id m id) + at_id m id ≡ map_weight m
  remove-weight m id =
      let list = ap entries_weight (entries-removed m id) in
      let found = ap (option_weight f) (get-entries m id) in
      let sum = drop-weight id (entries m) (entries_sorted m) in
      omega (arith, list, found, sum)

  -- what lies under these ids
  abbrev pub ids_at : Objects → List ObjectId → ℕ
  ids_at m [] = 0
  ids_at m (id ∷ ids) = at_id m id + ids_at m ids

  other-apart : (a b : ObjectId) → id_eq a b ≡ false → id_eq b a ≡ false
  other-apart a b e = go (id_eq b a) refl
    where
      go : (x : Bool) → id_eq b a ≡ x → x ≡ false
      go true h = absurd (let same = id_back b a h in cc)
      go false h = refl

  insert-others : (m : Objects) (o : Object) (ids : List ObjectId) → list_any (id_eq o.id) ids ≡ false → ids_at (with_object m o) ids ≡ ids_at m ids
  insert-others m o [] none = refl
  insert-others m o (id ∷ ids) none =
      let rest = insert-others m o ids (or_false_right (id_eq o.id id) (list_any (id_eq o.id) ids) none) in
      let apart = ids-apart id o.id (other-apart o.id id (or_false_left (id_eq o.id id) (list_any (id_eq o.id) ids) none)) in
      let here : get (with_object m o) id ≡ get m id = get-insert ids-total m o.id o id ∙ ap (λ b. cond b (Some o) (get m id)) apart in
      let same = ap (option_weight f) here in
      omega (arith, rest, same)

  remove-others : (m : Objects) (i : ObjectId) (ids : List ObjectId) → list_any (id_eq i) ids ≡ false → ids_at (without_id m i) ids ≡ ids_at m ids
  remove-others m i [] none = refl
  remove-others m i (id ∷ ids) none =
      let rest = remove-others m i ids (or_false_right (id_eq i id) (list_any (id_eq i) ids) none) in
      let apart = ids-apart id i (other-apart i id (or_false_left (id_eq i id) (list_any (id_eq i) ids) none)) in
      let here : get (without_id m i) id ≡ get m id = get-remove ids-total m i id ∙ ap (λ b. cond b None (get m id)) apart in
      let same = ap (option_weight f) here in
      omega (arith, rest, same)

  remove-all : (m : Objects) (ids : List ObjectId) → repeats id_eq ids ≡ false → map_weight (fold without_id m ids) + ids_at m ids ≡ map_weight m
  remove-all m [] apart = omega arith
  remove-all m (i ∷ ids) apart =
      let rest = remove-all (without_id m i) ids (or_false_right (list_any (id_eq i) ids) (repeats id_eq ids) apart) in
      let others = remove-others m i ids (or_false_left (list_any (id_eq i) ids) (repeats id_eq ids) apart) in
      let here = remove-weight m i in
      omega (arith, rest, others, here)

  -- written objects go in, and deleted ids go
  pub change-weight : (m : Objects) (os : List Object) (ids : List ObjectId) → repeats id_eq (map id_of os ++ ids) ≡ false → map_weight (fold without_id (fold with_object m os) ids) + ids_at m (map id_of os ++ ids) ≡ map_weight m + objects_weight f os
  change-weight m [] ids apart = let rest = remove-all m ids apart in omega (arith, rest)
  change-weight m (o ∷ os) ids apart =
      let rest = change-weight (with_object m o) os ids (or_false_right (list_any (id_eq o.id) (map id_of os ++ ids)) (repeats id_eq (map id_of os ++ ids)) apart) in
      let others = insert-others m o (map id_of os ++ ids) (or_false_left (list_any (id_eq o.id) (map id_of os ++ ids)) (repeats id_eq (map id_of os ++ ids)) apart) in
      let here = insert-weight m o in
      omega (arith, rest, others, here)
