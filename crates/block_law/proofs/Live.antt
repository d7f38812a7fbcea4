-- The live objects are those of one thread's map.
use Rattle.std.proofs.Common.{inl, inr, refl, ap, subst, sym, ◌∙◌, append_assoc, append-nil, arith}
use Rattle.std.specs.Prelude.{◌≡◌, ◌⊎◌, ◌<◌, Bool, true, false, cond, ◌||◌, List, [], ◌∷◌, ◌++◌, map, fold, filter, flat_map, Option, Some, None}
use Rattle.std.specs.List.{list_any}
use Rattle.std.specs.FinMap.{get}
use Rattle.chain_types.specs.declared.objects.ObjectId.{ObjectId}
use Rattle.chain_types.specs.declared.objects.Object.{Object}
use Rattle.protocol_spec.specs.declared.pieces.Executed.{Executed}
use Rattle.chain_types.specs.Equal.{id_eq}
use Rattle.protocol_spec.proofs.Equality.{id_same, id_self}
use Rattle.protocol_spec.proofs.ListLemmas.{flat_has, has_map, has_parts, has_mapped, has_left, has_right}
use Rattle.protocol_spec.proofs.Truth.{or_false_right}
use Rattle.protocol_spec.specs.Chain.Words.{Has, Along}
use Rattle.protocol_spec.specs.Chain.Tests.{has_id}
use Rattle.protocol_spec.specs.Chain.Keys.{objects_of}
use Rattle.protocol_spec.specs.Member.Versions.{Execution, Version, opened, written, written_by, versions, is_id, object_in, newer, newest, is_deleted, live}
use Rattle.protocol_spec.specs.Member.Sequential.{Objects, map_of, map_after, Folded, fold_all}
use Rattle.block_law.proofs.Written.{second}
use Rattle.block_law.specs.Orderly.{Step, gave, tx_of, id_of, IsKnown, IsOrderly, AreApart, AreOrderly}
use Rattle.block_law.specs.Leaving.{IsOfSteps}
use Rattle.block_law.proofs.Standing.{stays-after, stands-after, stands-opening, gone-after, none-opening}
use Rattle.block_law.proofs.Touched.{IsReplaced, IsTouched, touched-object, written-version, above}
use Rattle.block_law.proofs.ReadingSteps.{has-id, has-mapped-id, given_ids, object-given, after_steps, after-push, WroteKnown, IsGoneOver, given-once, finds-next, over-next, thread-is, goes-over, known-more}
use Rattle.block_law.proofs.Newest.{IsUpTo, newest-is}

-- ---- elements

id-has : (ids : List ObjectId) (id : ObjectId) → has_id ids id ≡ true → Has ids id
id-has [] id e = absurd (cc)
id-has (i ∷ ids) id e = go (id_eq id i) refl e (id-has ids id)
  where
    go : (b : Bool) → id_eq id i ≡ b → (b || has_id ids id) ≡ true → (has_id ids id ≡ true → Has ids id) → Has (i ∷ ids) id
    go true h e rest = inl (sym (id_same id i h))
    go false h e rest = inr (rest e)

object-with : (os : List Object) (id : ObjectId) → Has (map id_of os) id → (o : Object) × Has os o × (o.id ≡ id)
object-with [] id h = absurd h
object-with (o ∷ os) id (inl e) = (o, inl refl, e)
object-with (o ∷ os) id (inr h) = let r = object-with os id h in (r.0, inr r.1, r.2)

any-joined : (id : ObjectId) (xs ys : List ObjectId) → has_id xs id ≡ false → has_id ys id ≡ false → has_id (xs ++ ys) id ≡ false
any-joined id [] ys none more = more
any-joined id (x ∷ xs) ys none more = go (id_eq id x) none (any-joined id xs ys (or_false_right (id_eq id x) (has_id xs id) none) more)
  where
    go : (b : Bool) → (b || has_id xs id) ≡ false → has_id (xs ++ ys) id ≡ false → (b || has_id (xs ++ ys) id) ≡ false
    go true e rest = absurd (cc)
    go false e rest = rest

has-passed : {A : Type 0} (test : A → Bool) (xs : List A) (x : A) → Has (filter test xs) x → Has xs x × (test x ≡ true)
has-passed test [] x h = absurd h
has-passed {A = A} test (y ∷ xs) x h = go (test y) refl h (has-passed test xs x)
  where
    go : (b : Bool) → test y ≡ b → Has (cond b (y ∷ filter test xs) (filter test xs)) x → (Has (filter test xs) x → Has xs x × (test x ≡ true)) → Has (y ∷ xs) x × (test x ≡ true)
    go true e (inl q) rest = (inl q, subst (λ (z : A). test z ≡ true) q e)
    go true e (inr h) rest = let r = rest h in (inr r.0, r.1)
    go false e h rest = let r = rest h in (inr r.0, r.1)

pub passed-has : {A : Type 0} (test : A → Bool) (xs : List A) (x : A) → Has xs x → test x ≡ true → Has (filter test xs) x
passed-has test [] x h e = absurd h
passed-has {A = A} test (y ∷ xs) x (inl q) e = go (test y) (ap test q ∙ e)
  where
    go : (b : Bool) → b ≡ true → Has (cond b (y ∷ filter test xs) (filter test xs)) x
    go true e = inl q
    go false e = absurd (cc)
passed-has {A = A} test (y ∷ xs) x (inr h) e = go (test y) (passed-has test xs x h e)
  where
    go : (b : Bool) → Has (filter test xs) x → Has (cond b (y ∷ filter test xs) (filter test xs)) x
    go true h = inr h
    go false h = h

pub has-flat : {A B : Type 0} (f : A → List B) (xs : List A) (y : B) → Has (flat_map f xs) y → (x : A) × Has xs x × Has (f x) y
has-flat f [] y h = absurd h
has-flat {A = A} f (x ∷ xs) y h = go (has_parts (f x) (flat_map f xs) y h) (has-flat f xs y)
  where
    go : Has (f x) y ⊎ Has (flat_map f xs) y → (Has (flat_map f xs) y → (z : A) × Has xs z × Has (f z) y) → (z : A) × Has (x ∷ xs) z × Has (f z) y
    go (inl h) rest = (x, inl refl, h)
    go (inr h) rest = let r = rest h in (r.0, inr r.1, r.2)

pub any-has : {A : Type 0} (test : A → Bool) (xs : List A) → list_any test xs ≡ true → (x : A) × Has xs x × (test x ≡ true)
any-has test [] e = absurd (cc)
any-has {A = A} test (y ∷ xs) e = go (test y) refl e (any-has test xs)
  where
    go : (b : Bool) → test y ≡ b → (b || list_any test xs) ≡ true → (list_any test xs ≡ true → (x : A) × Has xs x × (test x ≡ true)) → (x : A) × Has (y ∷ xs) x × (test x ≡ true)
    go true t e rest = (y, inl refl, t)
    go false t e rest = let r = rest e in (r.0, inr r.1, r.2)

pub has-any : {A : Type 0} (test : A → Bool) (xs : List A) (x : A) → Has xs x → test x ≡ true → list_any test xs ≡ true
has-any test [] x h e = absurd h
has-any test (y ∷ xs) x (inl q) e = go (test y) (ap test q ∙ e)
  where
    go : (b : Bool) → b ≡ true → (b || list_any test xs) ≡ true
    go true e = refl
    go false e = absurd (cc)
has-any test (y ∷ xs) x (inr h) e = go (test y) (has-any test xs x h e)
  where
    go : (b : Bool) → list_any test xs ≡ true → (b || list_any test xs) ≡ true
    go true e = refl
    go false e = e

-- ---- versions of an id

module _ (opening : List Object) where
  abbrev IsWroteIn : List Step → Object → Type 0
  IsWroteIn before p = (y : Step) × Has before y × Has (gave y).objects p

  -- a version of the id that is there after these steps
  abbrev IsThere : List Step → ObjectId → Object → Type 0
  IsThere before id p = (p.id ≡ id) × (Has opening p ⊎ IsWroteIn before p)

  abbrev IsDeletedIn : List Step → ObjectId → Type 0
  IsDeletedIn before id = (y : Step) × Has before y × Has (gave y).effects.deleted id

  -- the greatest version of an id that was never deleted
  record IsTop (before : List Step) (id : ObjectId) (o : Object) : Type 0 where
    there : IsThere before id o
    highest : (p : Object) → IsThere before id p → IsUpTo o p
    kept : IsDeletedIn before id → ⊥

  -- what a map has under an id is the greatest version; if it has nothing, it was deleted or never there
  abbrev Fact : List Step → ObjectId → Option Object → Type 0
  Fact before id None = IsDeletedIn before id ⊎ ((p : Object) → IsThere before id p → ⊥)
  Fact before id (Some o) = IsTop before id o

  along-known : (xs before : List Step) (y : Step) (id : ObjectId) → Along (WroteKnown opening) before xs → Has xs y → Has (given_ids y) id → IsKnown opening (before ++ xs) id
  along-known [] before y id along h given = absurd h
  along-known (x ∷ xs) before y id along (inl e) given = subst (λ (ys : List Step). IsKnown opening ys id) (append_assoc before (x ∷ []) xs)
      (known-more opening (before ++ x ∷ []) xs id (along.0 id (subst (λ (z : Step). Has (given_ids z) id) (sym e) given)))
  along-known (x ∷ xs) before y id along (inr h) given = subst (λ (ys : List Step). IsKnown opening ys id) (append_assoc before (x ∷ []) xs) (along-known xs (before ++ x ∷ []) y id along.1 h given)

  -- ---- the opening objects

  first-fact : AreApart opening → (id : ObjectId) → Fact [] id (get (map_of opening) id)
  first-fact distinct id = go (has_id (map id_of opening) id) refl
    where
      same : (p o : Object) → get (map_of opening) id ≡ Some o → Has opening p → p.id ≡ id → p ≡ o
      same p o at h e = one (sym (stands-opening opening p distinct h) ∙ ap (get (map_of opening)) e ∙ at)
        where
          one : Some p ≡ Some o → p ≡ o
          one q = cc

      go : (b : Bool) → has_id (map id_of opening) id ≡ b → Fact [] id (get (map_of opening) id)
      go true e =
          let r = object-with opening id (id-has (map id_of opening) id e) in
          let at : get (map_of opening) id ≡ Some r.0 = ap (get (map_of opening)) (sym r.2) ∙ stands-opening opening r.0 distinct r.1 in
          subst (Fact [] id) (sym at) (top r.0 r.1 r.2 at)
        where
          top : (o : Object) → Has opening o → o.id ≡ id → get (map_of opening) id ≡ Some o → IsTop [] id o
          top o h q at = record { there = (q, inl h); highest = up; kept = λ d. d.1 }
            where
              up : (p : Object) → IsThere [] id p → IsUpTo o p
              up p (f, inl k) = inr (same p o at k f)
              up p (f, inr w) = absurd w.1
      go false e = subst (Fact [] id) (sym (none-opening opening id e)) (inr none)
        where
          none : (p : Object) → IsThere [] id p → ⊥
          none p (q, inl k) = let t = has-id (map id_of opening) id (subst (Has (map id_of opening)) q (has-mapped-id opening p k)) in cc
          none p (q, inr w) = w.1

  -- ---- one more step

  module _ (distinct : AreApart opening) (before : List Step) (over : IsGoneOver opening before) (x : Step) (next : IsOrderly opening before x) (id : ObjectId) where
    abbrev map_before : Objects
    map_before = after_steps opening before

    abbrev map_then : Objects
    map_then = map_after (after_steps opening before) (gave x)

    split-there : (p : Object) → IsThere (before ++ x ∷ []) id p → IsThere before id p ⊎ Has (gave x).objects p
    split-there p (e, inl h) = inl (e, inl h)
    split-there p (e, inr (y, h, w)) = go (has_parts before (x ∷ []) y h)
      where
        go : Has before y ⊎ Has (x ∷ []) y → IsThere before id p ⊎ Has (gave x).objects p
        go (inl h) = inl (e, inr (y, h, w))
        go (inr (inl q)) = inr (subst (λ (z : Step). Has (gave z).objects p) (sym q) w)
        go (inr (inr h)) = absurd h

    more-there : (p : Object) → IsThere before id p → IsThere (before ++ x ∷ []) id p
    more-there p (e, inl h) = (e, inl h)
    more-there p (e, inr (y, h, w)) = (e, inr (y, has_left before (x ∷ []) y h, w))

    split-deleted : IsDeletedIn (before ++ x ∷ []) id → IsDeletedIn before id ⊎ Has (gave x).effects.deleted id
    split-deleted (y, h, d) = go (has_parts before (x ∷ []) y h)
      where
        go : Has before y ⊎ Has (x ∷ []) y → IsDeletedIn before id ⊎ Has (gave x).effects.deleted id
        go (inl h) = inl (y, h, d)
        go (inr (inl q)) = inr (subst (λ (z : Step). Has (gave z).effects.deleted id) (sym q) d)
        go (inr (inr h)) = absurd h

    there-known : (p : Object) → IsThere before id p → IsKnown opening before id
    there-known p (e, inl h) = inl (p, h, e)
    there-known p (e, inr (y, h, w)) = along-known before [] y id over.known h (subst (Has (given_ids y)) e (object-given y p w))

    deleted-known : IsDeletedIn before id → IsKnown opening before id
    deleted-known (y, h, d) = along-known before [] y id over.known h (has_right (map id_of (gave y).objects) (gave y).effects.deleted id d)

    -- the step wrote the id
    module _ (q : Object) (h : Has (gave x).objects q) (e : q.id ≡ id) (alive : Has (gave x).effects.deleted id → ⊥) (fact : Fact before id (get map_before id)) where
      at : get map_then id ≡ Some q
      at = ap (get map_then) (sym e) ∙ stands-after map_before (gave x) q (given-once opening x next.fit next.once) h

      -- it wrote no other object with the id
      same : (p : Object) → Has (gave x).objects p → p.id ≡ id → p ≡ q
      same p k f = one (sym (stands-after map_before (gave x) p (given-once opening x next.fit next.once) k) ∙ ap (get map_then) f ∙ at)
        where
          one : Some p ≡ Some q → p ≡ q
          one r = cc

      -- what it replaced was the greatest
      old-top : (it : IsReplaced x q.id) → IsTop before id it.old
      old-top it = subst (Fact before id) (ap (get map_before) (sym (it.same ∙ e)) ∙ finds-next opening distinct before over x next it.of it.old it.named) fact

      lower : (it : IsReplaced x q.id) → it.old.version < q.version
      lower it = subst (λ n. it.old.version < n) (sym (written-version x q h)) (above x.inputs it.old (second (objects_of x.tx) x.inputs it.of it.old it.named))

      below-old : (old p : Object) → old.version < q.version → IsUpTo old p → p.version < q.version
      below-old old p less (inl k) = omega (arith, less, k)
      below-old old p less (inr k) = subst (λ (z : Object). z.version < q.version) (sym k) less

      earlier-lower : IsTouched x q.id → (p : Object) → IsThere before id p → p.version < q.version
      earlier-lower (inl it) p there = below-old it.old p (lower it) ((old-top it).highest p there)
      earlier-lower (inr makes) p there = absurd (next.fresh q.id makes (subst (IsKnown opening before) (sym e) (there-known p there)))

      not-deleted : IsTouched x q.id → IsDeletedIn before id → ⊥
      not-deleted (inl it) d = (old-top it).kept d
      not-deleted (inr makes) d = next.fresh q.id makes (subst (IsKnown opening before) (sym e) (deleted-known d))

      wrote-top : IsTop (before ++ x ∷ []) id q
      wrote-top = record {
        there = (e, inr (x, has_right before (x ∷ []) x (inl refl), h));
        highest = λ p t. up p t (split-there p t);
        kept = λ d. down (split-deleted d);
      }
        where
          up : (p : Object) → IsThere (before ++ x ∷ []) id p → IsThere before id p ⊎ Has (gave x).objects p → IsUpTo q p
          up p t (inl there) = inl (earlier-lower (touched-object x q h) p there)
          up p t (inr k) = inr (same p k t.0)

          down : IsDeletedIn before id ⊎ Has (gave x).effects.deleted id → ⊥
          down (inl d) = not-deleted (touched-object x q h) d
          down (inr d) = alive d

    -- the step neither wrote nor deleted the id
    same-fact : (g : Option Object) → (Has (map id_of (gave x).objects) id → ⊥) → (Has (gave x).effects.deleted id → ⊥) → Fact before id g → Fact (before ++ x ∷ []) id g
    same-fact (Some o) none alive top = record {
      there = more-there o top.there;
      highest = λ p t. up p t (split-there p t);
      kept = λ d. down (split-deleted d);
    }
      where
        up : (p : Object) → IsThere (before ++ x ∷ []) id p → IsThere before id p ⊎ Has (gave x).objects p → IsUpTo o p
        up p t (inl there) = top.highest p there
        up p t (inr k) = absurd (none (subst (Has (map id_of (gave x).objects)) t.0 (has-mapped-id (gave x).objects p k)))

        down : IsDeletedIn before id ⊎ Has (gave x).effects.deleted id → ⊥
        down (inl d) = top.kept d
        down (inr d) = alive d
    same-fact None none alive (inl (y, h, d)) = inl (y, has_left before (x ∷ []) y h, d)
    same-fact None none alive (inr never) = inr (λ p t. go p t (split-there p t))
      where
        go : (p : Object) → IsThere (before ++ x ∷ []) id p → IsThere before id p ⊎ Has (gave x).objects p → ⊥
        go p t (inl there) = never p there
        go p t (inr k) = none (subst (Has (map id_of (gave x).objects)) t.0 (has-mapped-id (gave x).objects p k))

    not-has : (ids : List ObjectId) → has_id ids id ≡ false → Has ids id → ⊥
    not-has ids e h = let t = has-id ids id h in cc

    next-fact : Fact before id (get map_before id) → Fact (before ++ x ∷ []) id (get map_then id)
    next-fact fact = go (has_id (gave x).effects.deleted id) refl (has_id (map id_of (gave x).objects) id) refl
      where
        go : (d : Bool) → has_id (gave x).effects.deleted id ≡ d → (w : Bool) → has_id (map id_of (gave x).objects) id ≡ w → Fact (before ++ x ∷ []) id (get map_then id)
        go true d w e = subst (Fact (before ++ x ∷ []) id) (sym (gone-after map_before (gave x) id (id-has (gave x).effects.deleted id d))) (inl (x, has_right before (x ∷ []) x (inl refl), id-has (gave x).effects.deleted id d))
        go false d true e =
            let r = object-with (gave x).objects id (id-has (map id_of (gave x).objects) id e) in
            subst (Fact (before ++ x ∷ []) id) (sym (at r.0 r.1 r.2 (not-has (gave x).effects.deleted d) fact)) (wrote-top r.0 r.1 r.2 (not-has (gave x).effects.deleted d) fact)
        go false d false e = subst (Fact (before ++ x ∷ []) id) (sym (stays-after map_before (gave x) id (any-joined id (map id_of (gave x).objects) (gave x).effects.deleted e d)))
            (same-fact (get map_before id) (not-has (map id_of (gave x).objects) e) (not-has (gave x).effects.deleted d) fact)

  -- ---- all steps

  all-facts : AreApart opening → (id : ObjectId) (xs before : List Step) → IsGoneOver opening before → Along (IsOrderly opening) before xs → Fact before id (get (after_steps opening before) id) → Fact (before ++ xs) id (get (after_steps opening (before ++ xs)) id)
  all-facts distinct id [] before over next fact = subst (λ (ys : List Step). Fact ys id (get (after_steps opening ys) id)) (sym (append-nil before)) fact
  all-facts distinct id (x ∷ xs) before over next fact = subst (λ (ys : List Step). Fact ys id (get (after_steps opening ys) id)) (append_assoc before (x ∷ []) xs)
      (all-facts distinct id xs (before ++ x ∷ []) (over-next opening distinct before over x next.0) next.1
      (subst (λ (m : Objects). Fact (before ++ x ∷ []) id (get m id)) (sym (after-push opening (map_of opening) before x)) (next-fact distinct before over x next.0 id fact)))

  -- ---- the live object

  module _ (steps : List Step) (executed : List Execution) (of : IsOfSteps steps executed) (id : ObjectId) where
    abbrev candidates : List Object
    candidates = map object_in (filter (is_id id) (versions opening executed))

    candidate-there : (p : Object) → Has candidates p → IsThere steps id p
    unfolding versions
    candidate-there p h =
        let v = has_mapped object_in (filter (is_id id) (versions opening executed)) p h in
        let kept = has-passed (is_id id) (versions opening executed) v.0 v.1 in
        (ap id_of (sym v.2) ∙ id_same v.0.object.id id kept.1, from v.0 v.2 (has_parts (map opened opening) (flat_map written_by executed) v.0 kept.0))
      where
        from : (v : Version) → v.object ≡ p → Has (map opened opening) v ⊎ Has (flat_map written_by executed) v → Has opening p ⊎ IsWroteIn steps p
        from v e (inl h) = let o = has_mapped opened opening v h in inl (subst (Has opening) (ap object_in o.2 ∙ e) o.1)
        from v e (inr h) =
            let x = has-flat written_by executed v h in
            let o = has_mapped (written x.0.digest) x.0.gave.objects v x.2 in
            let y = of.only x.0 x.1 in
            inr (y.0, y.1, subst (λ (g : Executed). Has g.objects p) y.2 (subst (Has x.0.gave.objects) (ap object_in o.2 ∙ e) o.1))

    there-candidate : (p : Object) → IsThere steps id p → Has candidates p
    unfolding versions
    there-candidate p (e, inl h) = passes (opened p) refl (has_left (map opened opening) (flat_map written_by executed) (opened p) (has_map opened opening p h))
      where
        passes : (v : Version) → v.object ≡ p → Has (versions opening executed) v → Has candidates p
        passes v q k = subst (Has candidates) q (has_map object_in (filter (is_id id) (versions opening executed)) v (passed-has (is_id id) (versions opening executed) v k (subst (λ (z : ObjectId). id_eq z id ≡ true) (sym (ap id_of q ∙ e)) (id_self id))))
    there-candidate p (e, inr (y, h, w)) =
        let x = of.whole y h in
        passes (written x.0.digest p) refl (has_right (map opened opening) (flat_map written_by executed) (written x.0.digest p)
        (flat_has written_by executed x.0 (written x.0.digest p) x.1 (has_map (written x.0.digest) x.0.gave.objects p (subst (λ (g : Executed). Has g.objects p) (sym x.2) w))))
      where
        passes : (v : Version) → v.object ≡ p → Has (versions opening executed) v → Has candidates p
        passes v q k = subst (Has candidates) q (has_map object_in (filter (is_id id) (versions opening executed)) v (passed-has (is_id id) (versions opening executed) v k (subst (λ (z : ObjectId). id_eq z id ≡ true) (sym (ap id_of q ∙ e)) (id_self id))))

    deleted-in : is_deleted executed id ≡ true → IsDeletedIn steps id
    deleted-in e =
        let x = any-has (λ (y : Execution). has_id y.gave.effects.deleted id) executed e in
        let y = of.only x.0 x.1 in
        (y.0, y.1, subst (λ (g : Executed). Has g.effects.deleted id) y.2 (id-has x.0.gave.effects.deleted id x.2))

    in-deleted : IsDeletedIn steps id → is_deleted executed id ≡ true
    in-deleted (y, h, d) =
        let x = of.whole y h in
        has-any (λ (z : Execution). has_id z.gave.effects.deleted id) executed x.0 x.1 (has-id x.0.gave.effects.deleted id (subst (λ (g : Executed). Has g.effects.deleted id) (sym x.2) d))

    live-fact : (g : Option Object) → Fact steps id g → live opening executed id ≡ g
    unfolding live
    live-fact (Some o) top = go (is_deleted executed id) refl
      where
        go : (b : Bool) → is_deleted executed id ≡ b → cond b None (newest id (versions opening executed)) ≡ Some o
        go true e = absurd (top.kept (deleted-in e))
        go false e = newest-is o candidates (there-candidate o top.there) (λ p h. top.highest p (candidate-there p h))
    live-fact None (inl d) = subst (λ (b : Bool). cond b None (newest id (versions opening executed)) ≡ None) (sym (in-deleted d)) refl
    live-fact None (inr never) = go (is_deleted executed id)
      where
        none-newest : (ps : List Object) → ((p : Object) → Has ps p → ⊥) → fold newer None ps ≡ None
        none-newest [] none = refl
        none-newest (p ∷ ps) none = absurd (none p (inl refl))

        go : (b : Bool) → cond b None (newest id (versions opening executed)) ≡ None
        go true = refl
        go false = none-newest candidates (λ p h. never p (candidate-there p h))

pub live-is-map : (opening : List Object) (steps : List Step) (executed : List Execution) → AreApart opening → AreOrderly opening steps → IsOfSteps steps executed
    → (id : ObjectId) → live opening executed id ≡ get (fold_all (map_of opening) (map tx_of steps)).map id
live-is-map opening steps executed distinct orderly of id =
    let over = goes-over opening distinct steps [] (record { orderly = tt; finds = tt; known = tt }) orderly in
    live-fact opening steps executed of id (get (after_steps opening steps) id) (all-facts opening distinct id steps [] (record { orderly = tt; finds = tt; known = tt }) orderly (first-fact opening distinct id))
    ∙ ap (λ (f : Folded). get f.map id) (sym (thread-is opening steps orderly over.finds))

-- a live object has its id, and is of a version with it
pub live-there : (opening : List Object) (steps : List Step) (executed : List Execution) → AreApart opening → AreOrderly opening steps → IsOfSteps steps executed
    → (id : ObjectId) (o : Object) → live opening executed id ≡ Some o → (o.id ≡ id) × ((v : Version) × Has (versions opening executed) v × (v.object.id ≡ id))
live-there opening steps executed distinct orderly of id o e = (top.there.0, (v.0, (has-passed (is_id id) (versions opening executed) v.0 v.1).0, ap id_of v.2 ∙ top.there.0))
  where
    fact : Fact opening steps id (get (after_steps opening steps) id)
    fact = all-facts opening distinct id steps [] (record { orderly = tt; finds = tt; known = tt }) orderly (first-fact opening distinct id)

    top : IsTop opening steps id o
    top = subst (Fact opening steps id) (sym (live-fact opening steps executed of id (get (after_steps opening steps) id) fact) ∙ e) fact

    v : (v : Version) × Has (filter (is_id id) (versions opening executed)) v × (v.object ≡ o)
    v = has_mapped object_in (filter (is_id id) (versions opening executed)) o (there-candidate opening steps executed of id o top.there)
