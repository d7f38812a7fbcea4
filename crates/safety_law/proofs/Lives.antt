-- The live objects of any executions have different ids, and each is an opening object or was written.
use Rattle.std.proofs.Common.{inl, inr, refl, sym, subst, ap, ◌∙◌}
use Rattle.std.specs.Prelude.{◌≡◌, ◌⊎◌, Bool, true, false, cond, ◌&&◌, ◌||◌, T, nat_lt, List, [], ◌∷◌, map, fold, filter, flat_map, Option, Some, None}
use Rattle.std.specs.List.{list_any}
use Rattle.std.specs.FinMap.Entries.{put, by_order, below_all, is_sorted, is_sorted-put}
use Rattle.std.specs.Ordering.{is_lt, is_eq}
use Rattle.std.specs.Cmp.{eq_by_cmp_equiv}
use Rattle.std.specs.declared.cmp.Ordering.{Ordering}
use Rattle.std.specs.declared.cmp.Ordering.TheVariants.{Less, Equal, Greater}
use Rattle.chain_types.specs.declared.objects.ObjectId.{ObjectId}
use Rattle.chain_types.specs.declared.objects.Object.{Object}
use Rattle.chain_types.specs.Equal.{id_eq}
use Rattle.protocol_spec.proofs.Equality.{id_same, ids_unique}
use Rattle.protocol_spec.proofs.ListLemmas.{has_parts, has_mapped}
use Rattle.protocol_spec.proofs.Truth.{some_same}
use Rattle.protocol_spec.specs.Chain.Words.{Has, Each, repeats}
use Rattle.protocol_spec.specs.Member.Versions.{Execution, Version, opened, written, written_by, versions, object_in, is_id, is_deleted, newer, newest, live, id_cmp, with_live, live_list}
use Rattle.block_law.proofs.Live.{has-flat}
use Rattle.block_law.proofs.ReadingSteps.{has-kept}
use Rattle.block_law.specs.Orderly.{id_of, AreApart}
use Rattle.block_law.proofs.Standing.{ids-total}

abbrev Entry : Type 0
Entry = ObjectId × Object

-- ---- entries in the order of their ids

-- each entry is under its object's id, and its object is as said
abbrev IsUnder : (Object → Type 0) → Entry → Type 0
IsUnder Q e = (e.0 ≡ e.1.id) × Q e.1

module _ (Q : Object → Type 0) where
  put-under : (o : Object) → Q o → (es : List Entry) → Each (IsUnder Q) es → Each (IsUnder Q) (put id_cmp o.id o es)
  put-under o q [] each = ((refl, q), tt)
  put-under o q (e ∷ es) each = go (id_cmp o.id e.0) refl (put-under o q es each.1)
    where
      go : (r : Ordering) → id_cmp o.id e.0 ≡ r → Each (IsUnder Q) (put id_cmp o.id o es) → Each (IsUnder Q) (by_order r ((o.id, o) ∷ e ∷ es) ((e.0, o) ∷ es) (e ∷ put id_cmp o.id o es))
      go Less h rest = ((refl, q), each)
      go Equal h rest = ((sym (ids_unique o.id e.0 h), q), each.1)
      go Greater h rest = (each.0, rest)

  all-under : (os : List (Option Object)) → ((o : Object) → Has os (Some o) → Q o) → (es : List Entry) → Each (IsUnder Q) es → Each (IsUnder Q) (fold with_live es os)
  all-under [] h es each = each
  all-under (None ∷ os) h es each = all-under os (λ o k. h o (inr k)) es each
  all-under (Some o ∷ os) h es each = all-under os (λ p k. h p (inr k)) (put id_cmp o.id o es) (put-under o (h o (inl refl)) es each)

  objects-under : (es : List Entry) → Each (IsUnder Q) es → (o : Object) → Has (map (λ (e : Entry). e.1) es) o → Q o
  objects-under [] each o h = absurd h
  objects-under (e ∷ es) each o (inl q) = subst Q q each.0.1
  objects-under (e ∷ es) each o (inr h) = objects-under es each.1 o h

all-sorted : (os : List (Option Object)) (es : List Entry) → T (is_sorted id_cmp es) → T (is_sorted id_cmp (fold with_live es os))
all-sorted [] es h = h
all-sorted (None ∷ os) es h = all-sorted os es h
all-sorted (Some o ∷ os) es h = all-sorted os (put id_cmp o.id o es) (is_sorted-put id_cmp ids-total o.id o es h)

pub less-tied : (r : Ordering) → is_eq r ≡ true → T (is_lt r) → ⊥
less-tied Less e h = absurd (cc)
less-tied Equal e h = h
less-tied Greater e h = h

and-parts : (a b : Bool) → T (a && b) → T a × T b
and-parts true b h = (tt, h)
and-parts false b h = absurd h

none-below : (x : ObjectId) (es : List Entry) → Each (IsUnder (λ (o : Object). Unit {0})) es → T (below_all id_cmp x es) → list_any (id_eq x) (map id_of (map (λ (e : Entry). e.1) es)) ≡ false
none-below x [] each h = refl
none-below x (e ∷ es) each h =
    let parts = and-parts (is_lt (id_cmp x e.0)) (below_all id_cmp x es) h in
    go (id_eq x e.1.id) refl parts.0 (none-below x es each.1 parts.1)
  where
    go : (b : Bool) → id_eq x e.1.id ≡ b → T (is_lt (id_cmp x e.0)) → list_any (id_eq x) (map id_of (map (λ (e : Entry). e.1) es)) ≡ false → (b || list_any (id_eq x) (map id_of (map (λ (e : Entry). e.1) es))) ≡ false
    go false q less rest = rest
    go true q less rest = absurd (less-tied (id_cmp x x) ((eq_by_cmp_equiv ids-total).refl x) (subst (λ (z : ObjectId). T (is_lt (id_cmp x z))) (each.0.0 ∙ sym (id_same x e.1.id q)) less))

sorted-apart : (es : List Entry) → Each (IsUnder (λ (o : Object). Unit {0})) es → T (is_sorted id_cmp es) → AreApart (map (λ (e : Entry). e.1) es)
sorted-apart [] each h = refl
sorted-apart (e ∷ es) each h =
    let parts = and-parts (below_all id_cmp e.0 es) (is_sorted id_cmp es) h in
    go (list_any (id_eq e.1.id) (map id_of (map (λ (e : Entry). e.1) es)))
    (none-below e.1.id es each.1 (subst (λ (z : ObjectId). T (below_all id_cmp z es)) each.0.0 parts.0)) (sorted-apart es each.1 parts.1)
  where
    go : (b : Bool) → b ≡ false → AreApart (map (λ (e : Entry). e.1) es) → (b || repeats id_eq (map id_of (map (λ (e : Entry). e.1) es))) ≡ false
    go true e rest = absurd (cc)
    go false e rest = rest

-- ---- the live objects

pub live-apart : (opening : List Object) (executed : List Execution) → AreApart (live_list opening executed)
unfolding live_list
live-apart opening executed =
    let os = map (λ (v : Version). live opening executed v.object.id) (versions opening executed) in
    sorted-apart (fold with_live [] os) (all-under (λ (o : Object). Unit {0}) os (λ o h. tt) [] tt) (all-sorted os [] tt)

pub kept-has : (test : Execution → Bool) (xs : List Execution) (x : Execution) → Has (filter test xs) x → Has xs x
kept-has = has-kept

pub newest-from : (ps : List Object) (b : Option Object) (o : Object) → fold newer b ps ≡ Some o → (b ≡ Some o) ⊎ Has ps o
newest-from [] b o e = inl e
newest-from (p ∷ ps) b o e = go (newest-from ps (newer b p) o e)
  where
    either : (b : Option Object) → newer b p ≡ Some o → (b ≡ Some o) ⊎ Has (p ∷ ps) o
    either None q = inr (inl (some_same p o q))
    either (Some x) q = pick (nat_lt x.version p.version) q
      where
        pick : (t : Bool) → cond t (Some p) (Some x) ≡ Some o → (Some x ≡ Some o) ⊎ Has (p ∷ ps) o
        pick true q = inr (inl (some_same p o q))
        pick false q = inl q

    go : (newer b p ≡ Some o) ⊎ Has ps o → (b ≡ Some o) ⊎ Has (p ∷ ps) o
    go (inl q) = either b q
    go (inr h) = inr (inr h)

-- a live object is an opening object, or was written
abbrev pub IsThere : List Object → List Execution → Object → Type 0
IsThere opening executed o = Has opening o ⊎ ((x : Execution) × Has executed x × Has x.gave.objects o)

pub version-there : (opening : List Object) (executed : List Execution) (v : Version) → Has (versions opening executed) v → IsThere opening executed v.object
unfolding versions
version-there opening executed v h = go (has_parts (map opened opening) (flat_map written_by executed) v h)
  where
    go : Has (map opened opening) v ⊎ Has (flat_map written_by executed) v → IsThere opening executed v.object
    go (inl h) = let o = has_mapped opened opening v h in inl (subst (Has opening) (ap object_in o.2) o.1)
    go (inr h) =
        let x = has-flat written_by executed v h in
        let o = has_mapped (written x.0.digest) x.0.gave.objects v x.2 in
        inr (x.0, x.1, subst (Has x.0.gave.objects) (ap object_in o.2) o.1)

alive-there : (opening : List Object) (executed : List Execution) (id : ObjectId) (o : Object) → live opening executed id ≡ Some o → IsThere opening executed o
unfolding live
alive-there opening executed id o e = go (is_deleted executed id) e
  where
    candidates : List Object
    candidates = map object_in (filter (is_id id) (versions opening executed))

    among : Has candidates o → IsThere opening executed o
    among h =
        let v = has_mapped object_in (filter (is_id id) (versions opening executed)) o h in
        subst (IsThere opening executed) v.2 (version-there opening executed v.0 (has-kept (is_id id) (versions opening executed) v.0 v.1))

    newest-there : (None ≡ Some o) ⊎ Has candidates o → IsThere opening executed o
    newest-there (inl q) = absurd (cc)
    newest-there (inr h) = among h

    go : (b : Bool) → cond b None (newest id (versions opening executed)) ≡ Some o → IsThere opening executed o
    go true e = absurd (cc)
    go false e = newest-there (newest-from candidates None o e)

pub live-there : (opening : List Object) (executed : List Execution) (o : Object) → Has (live_list opening executed) o → IsThere opening executed o
unfolding live_list
live-there opening executed o h =
    objects-under (IsThere opening executed) (fold with_live [] os) (all-under (IsThere opening executed) os (λ p k. from p (has_mapped (λ (v : Version). live opening executed v.object.id) (versions opening executed) (Some p) k)) [] tt) o h
  where
    os : List (Option Object)
    os = map (λ (v : Version). live opening executed v.object.id) (versions opening executed)

    from : (p : Object) → (v : Version) × Has (versions opening executed) v × (live opening executed v.object.id ≡ Some p) → IsThere opening executed p
    from p (v, k, e) = alive-there opening executed v.object.id p e
