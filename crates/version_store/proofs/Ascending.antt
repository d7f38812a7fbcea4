-- Objects put into their places by ascending id: what is found, and when two lists are one.
use Rattle.std.proofs.Common.{◌≡◌, Bool, true, false, cond, ◌&&◌, ◌||◌, T, List, [], ◌∷◌, Option, Some, None, map, refl, ap, sym, ◌∙◌}
use Rattle.std.specs.Prelude.{fold}
use Rattle.std.specs.List.{AllByRecursion, IsDistinct, list_any}
use Rattle.std.specs.Map.{lookup, keys_of}
use Rattle.std.specs.Ordering.{is_eq, is_lt}
use Rattle.std.specs.declared.cmp.Ordering.{Ordering}
use Rattle.std.specs.declared.cmp.Ordering.TheVariants.{Less, Equal, Greater}
use Rattle.std.specs.Cmp.{IsTotalOrder}
use Rattle.std.specs.Cmp.Lexicographic.{on_texts}
use Rattle.std.specs.FinMap.Entries.{below_all, by_order, find, find-put, is_sorted, is_sorted-put, put, same_entries}
use Rattle.std.proofs.lemmas.Map.Keys.{IsDistinct-tail}
use Rattle.chain_types.specs.declared.objects.Object.{Object}
use Rattle.chain_types.specs.declared.objects.ObjectId.{ObjectId}
use Rattle.chain_types.specs.Equal.{id_eq}
use Rattle.protocol_spec.proofs.Equality.{ids_unique, ids_tie, id_same, id_self}
use Rattle.protocol_spec.proofs.Truth.{or_else}
use Rattle.protocol_spec.specs.Chain.Words.{Each}
use Rattle.protocol_spec.specs.Member.Versions.{id_cmp, with_live}
use Rattle.version_store.specs.Bases.{object_under}
use Rattle.version_store.proofs.Merging.{HasId}
use Rattle.version_store.proofs.Rows.{AreApart, IsOwn, none_behind}

abbrev pub Entries : Type 0
Entries = List (ObjectId × Object)

-- ---- the order of the ids

ids_total : IsTotalOrder id_cmp
ids_total = on_texts (λ (i : ObjectId). i.0.0)

-- a search in order is a look-up
pub found_under : (id : ObjectId) (entries : Entries) → find id_cmp id entries ≡ lookup (id_eq id) entries
found_under id [] = refl
found_under id (e ∷ es) = ap (λ b. cond b (Some e.1) (find id_cmp id es)) (sym (ids_tie id e.0)) ∙ ap (cond (id_eq id e.0) (Some e.1)) (found_under id es)

-- ---- entries in order

pub record InOrder (entries : Entries) : Type 0 where
  pub sorted : T (is_sorted id_cmp entries)
  pub own : Each IsOwn entries

own_put : (o : Object) (entries : Entries) → Each IsOwn entries → Each IsOwn (put id_cmp o.id o entries)
own_put o [] own = (refl, tt)
own_put o (e ∷ es) own = by (id_cmp o.id e.0) refl (own_put o es own.1)
  where
    by : (r : Ordering) → id_cmp o.id e.0 ≡ r → Each IsOwn (put id_cmp o.id o es) → Each IsOwn (by_order r ((o.id, o) ∷ e ∷ es) ((e.0, o) ∷ es) (e ∷ put id_cmp o.id o es))
    by Less is more = (refl, own)
    by Equal is more = (ids_unique o.id e.0 is, own.1)
    by Greater is more = (own.0, more)

one_more : (entries : Entries) (o : Option Object) → InOrder entries → InOrder (with_live entries o)
one_more entries None ok = ok
one_more entries (Some o) ok = record { sorted = is_sorted-put id_cmp ids_total o.id o entries ok.sorted; own = own_put o entries ok.own }

all_more : (objects : List (Option Object)) (entries : Entries) → InOrder entries → InOrder (fold with_live entries objects)
all_more [] entries ok = ok
all_more (o ∷ os) entries ok = all_more os (with_live entries o) (one_more entries o ok)

pub in_order : (objects : List (Option Object)) → InOrder (fold with_live [] objects)
in_order objects = all_more objects [] (record { sorted = tt; own = tt })

pub owned : (objects : List (Option Object)) → Each IsOwn (fold with_live [] objects)
owned objects = (in_order objects).own

-- no id comes twice
below_apart : (id : ObjectId) (entries : Entries) → T (below_all id_cmp id entries) → AllByRecursion (λ y. id_eq id y ≡ false) (keys_of entries)
below_apart id [] h = tt
below_apart id (e ∷ es) h = by (id_cmp id e.0) refl h (below_apart id es)
  where
    by : (r : Ordering) → id_cmp id e.0 ≡ r → T (is_lt r && below_all id_cmp id es) → (T (below_all id_cmp id es) → AllByRecursion (λ y. id_eq id y ≡ false) (keys_of es))
        → AllByRecursion (λ y. id_eq id y ≡ false) (keys_of (e ∷ es))
    by Less is h more = (ids_tie id e.0 ∙ ap is_eq is, more h)
    by Equal is h more = absurd h
    by Greater is h more = absurd h

first : (a b : Bool) → T (a && b) → T a
first true b h = tt
first false b h = absurd h

second : (a b : Bool) → T (a && b) → T b
second true b h = h
second false b h = absurd h

sorted_apart : (entries : Entries) → T (is_sorted id_cmp entries) → AreApart entries
unfolding IsDistinct
sorted_apart [] h = tt
sorted_apart (e ∷ es) h = (below_apart e.0 es (first (below_all id_cmp e.0 es) (is_sorted id_cmp es) h), sorted_apart es (second (below_all id_cmp e.0 es) (is_sorted id_cmp es) h))

pub apart : (objects : List (Option Object)) → AreApart (fold with_live [] objects)
apart objects = sorted_apart (fold with_live [] objects) (in_order objects).sorted

-- ---- what is found

-- an object, if it has the id
abbrev with_id : ObjectId → Option Object → Option Object
with_id id None = None
with_id id (Some o) = cond (id_eq id o.id) (Some o) None

found_more : (entries : Entries) (o : Option Object) (id : ObjectId) → find id_cmp id (with_live entries o) ≡ or_else (with_id id o) (find id_cmp id entries)
found_more entries None id = refl
found_more entries (Some o) id =
    find-put id_cmp ids_total id o.id o entries
    ∙ ap (λ b. cond b (Some o) (find id_cmp id entries)) (sym (ids_tie id o.id))
    ∙ by (id_eq id o.id)
  where
    by : (b : Bool) → cond b (Some o) (find id_cmp id entries) ≡ or_else (cond b (Some o) None) (find id_cmp id entries)
    by true = refl
    by false = refl

id_at : (id : ObjectId) (o : Option Object) → HasId id o → with_id id o ≡ o
id_at id None h = refl
id_at id (Some o) h = ap (λ (i : ObjectId). cond (id_eq id i) (Some o) None) h ∙ ap (λ b. cond b (Some o) None) (id_self id)

other_id : (id i : ObjectId) (o : Option Object) → HasId i o → id_eq id i ≡ false → with_id id o ≡ None
other_id id i None h differs = refl
other_id id i (Some o) h differs = ap (λ (j : ObjectId). cond (id_eq id j) (Some o) None) h ∙ ap (λ b. cond b (Some o) None) differs

twice : (o rest : Option Object) → or_else o (or_else o rest) ≡ or_else o rest
twice None rest = refl
twice (Some o) rest = refl

-- two lists in order are one if the same is found
pub same_found : (xs ys : List (Option Object)) → ((id : ObjectId) → find id_cmp id (fold with_live [] xs) ≡ find id_cmp id (fold with_live [] ys)) → fold with_live [] xs ≡ fold with_live [] ys
same_found xs ys same = same_entries id_cmp ids_total ids_unique (fold with_live [] xs) (fold with_live [] ys) (in_order xs).sorted (in_order ys).sorted same

-- after the objects of these ids
module _ (object_of : ObjectId → Option Object) (has : (id : ObjectId) → HasId id (object_of id)) where
  all_found : (ids : List ObjectId) (entries : Entries) (id : ObjectId)
      → find id_cmp id (fold with_live entries (map object_of ids)) ≡ cond (list_any (id_eq id) ids) (or_else (object_of id) (find id_cmp id entries)) (find id_cmp id entries)
  all_found [] entries id = refl
  all_found (i ∷ is) entries id =
      all_found is (with_live entries (object_of i)) id
      ∙ ap (λ o. cond (list_any (id_eq id) is) (or_else (object_of id) o) o) (found_more entries (object_of i) id)
      ∙ by (id_eq id i) refl
    where
      either : (b : Bool) → cond b (or_else (object_of id) (or_else (object_of id) (find id_cmp id entries))) (or_else (object_of id) (find id_cmp id entries)) ≡ or_else (object_of id) (find id_cmp id entries)
      either true = twice (object_of id) (find id_cmp id entries)
      either false = refl

      by : (b : Bool) → id_eq id i ≡ b
          → cond (list_any (id_eq id) is) (or_else (object_of id) (or_else (with_id id (object_of i)) (find id_cmp id entries))) (or_else (with_id id (object_of i)) (find id_cmp id entries))
          ≡ cond (b || list_any (id_eq id) is) (or_else (object_of id) (find id_cmp id entries)) (find id_cmp id entries)
      by true is_id =
          ap (λ o. cond (list_any (id_eq id) is) (or_else (object_of id) (or_else o (find id_cmp id entries))) (or_else o (find id_cmp id entries)))
          (ap (λ j. with_id id (object_of j)) (sym (id_same id i is_id)) ∙ id_at id (object_of id) (has id))
          ∙ either (list_any (id_eq id) is)
      by false is_id =
          ap (λ o. cond (list_any (id_eq id) is) (or_else (object_of id) (or_else o (find id_cmp id entries))) (or_else o (find id_cmp id entries))) (other_id id i (object_of i) (has i) is_id)

  -- if there is none of the other ids, each is found
  pub found_as : (ids : List ObjectId) → ((id : ObjectId) → list_any (id_eq id) ids ≡ false → object_of id ≡ None) → (id : ObjectId) → find id_cmp id (fold with_live [] (map object_of ids)) ≡ object_of id
  found_as ids none id = all_found ids [] id ∙ by (list_any (id_eq id) ids) refl (object_of id) refl
    where
      by : (b : Bool) → list_any (id_eq id) ids ≡ b → (o : Option Object) → object_of id ≡ o → cond b (or_else o None) None ≡ o
      by true is None same = refl
      by true is (Some o) same = refl
      by false is o same = sym (none id is) ∙ same

  -- so the list is that of other ids, if there is none beside those too
  pub same_live : (ids others : List ObjectId) → ((id : ObjectId) → list_any (id_eq id) ids ≡ false → object_of id ≡ None) → ((id : ObjectId) → list_any (id_eq id) others ≡ false → object_of id ≡ None)
      → fold with_live [] (map object_of ids) ≡ fold with_live [] (map object_of others)
  same_live ids others none neither = same_found (map object_of ids) (map object_of others) (λ id. found_as ids none id ∙ sym (found_as others neither id))

-- after rows
rows_found : (rows entries : Entries) → Each IsOwn rows → AreApart rows → (id : ObjectId)
    → find id_cmp id (fold with_live entries (map (λ e. Some (object_under e)) rows)) ≡ or_else (lookup (id_eq id) rows) (find id_cmp id entries)
rows_found [] entries own apart id = refl
rows_found (e ∷ es) entries own apart id =
    rows_found es (with_live entries (Some e.1)) own.1 (IsDistinct-tail id_eq e.0 (keys_of es) apart) id
    ∙ ap (or_else (lookup (id_eq id) es)) (found_more entries (Some e.1) id ∙ ap (λ (i : ObjectId). or_else (cond (id_eq id i) (Some e.1) None) (find id_cmp id entries)) own.0)
    ∙ by (id_eq id e.0) refl
  where
    by : (b : Bool) → id_eq id e.0 ≡ b → or_else (lookup (id_eq id) es) (or_else (cond b (Some e.1) None) (find id_cmp id entries)) ≡ or_else (cond b (Some e.1) (lookup (id_eq id) es)) (find id_cmp id entries)
    by true is = ap (λ o. or_else o (Some e.1)) (none_behind e es id apart is)
    by false is = refl

none_else : (o : Option Object) → or_else o None ≡ o
none_else None = refl
none_else (Some o) = refl

abbrev pub placed : Entries → Entries
placed rows = fold with_live [] (map (λ e. Some (object_under e)) rows)

-- the rows in order have what the rows have
pub placed_under : (rows : Entries) → Each IsOwn rows → AreApart rows → (id : ObjectId) → lookup (id_eq id) (placed rows) ≡ lookup (id_eq id) rows
placed_under rows own apart id = sym (found_under id (placed rows)) ∙ rows_found rows [] own apart id ∙ none_else (lookup (id_eq id) rows)
