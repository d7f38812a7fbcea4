-- Objects under their ids: what is found, when two maps are one, and their order.
use Rattle.std.proofs.Common.{◌≡◌, Bool, true, false, cond, T, [], ◌∷◌, Option, Some, None, refl, ap, sym, ◌∙◌}
use Rattle.std.specs.List.{AllByRecursion, IsDistinct}
use Rattle.std.specs.Map.{lookup, keys_of}
use Rattle.std.specs.Ordering.{match_ordering}
use Rattle.std.specs.BTreeMap.{insert_entry}
use Rattle.std.specs.declared.cmp.Ordering.{Ordering}
use Rattle.std.specs.declared.cmp.Ordering.TheVariants.{Equal, Greater, Less}
use Rattle.std.specs.Cmp.{IsTotalOrder}
use Rattle.std.specs.Cmp.Lexicographic.{on_texts}
use Rattle.std.specs.FinMap.{entries, entries_sorted, get, get-entries, get-from_entries, same_map}
use Rattle.std.specs.FinMap.Entries.{by_order, find, find-put, is_sorted, is_sorted-put, put, same_entries}
use Rattle.std.proofs.lemmas.Map.Keys.{IsDistinct-head, IsDistinct-tail}
use Rattle.chain_types.specs.declared.objects.Object.{Object}
use Rattle.chain_types.specs.declared.objects.ObjectId.{ObjectId}
use Rattle.chain_types.specs.Equal.{id_eq}
use Rattle.protocol_spec.proofs.Equality.{ids_unique, ids_tie, id_same}
use Rattle.protocol_spec.specs.Member.Sequential.{Objects}
use Rattle.protocol_spec.specs.Member.Versions.{id_cmp}
use Rattle.follower_core.specs.Ledgers.{Entries, objects_under, placed}

-- ---- the order of the ids

pub ids_total : IsTotalOrder id_cmp
ids_total = on_texts (λ (i : ObjectId). i.0.0)

-- ---- what is found

found_under : (id : ObjectId) (es : Entries) → find id_cmp id es ≡ lookup (id_eq id) es
found_under id [] = refl
found_under id (e ∷ es) = ap (λ b. cond b (Some e.1) (find id_cmp id es)) (sym (ids_tie id e.0)) ∙ ap (cond (id_eq id e.0) (Some e.1)) (found_under id es)

pub under : (es : Entries) (id : ObjectId) → get (objects_under es) id ≡ lookup (id_eq id) es
under es id = get-from_entries ids_total es id ∙ found_under id es

-- two maps are one if the same is found
pub same_objects : (m n : Objects) → ((id : ObjectId) → get m id ≡ get n id) → m ≡ n
same_objects m n same = same_map ids_total ids_unique m n same

-- ---- in order

none_under : (id : ObjectId) (es : Entries) → AllByRecursion (λ y. id_eq id y ≡ false) (keys_of es) → lookup (id_eq id) es ≡ None
none_under id [] h = refl
none_under id (e ∷ es) h = ap (λ b. cond b (Some e.1) (lookup (id_eq id) es)) h.0 ∙ none_under id es h.1

or_else : Option Object → Option Object → Option Object
or_else None o = o
or_else (Some p) o = Some p

none_else : (o : Option Object) → or_else o None ≡ o
unfolding or_else
none_else None = refl
none_else (Some o) = refl

placed_found : (es done : Entries) → IsDistinct id_eq (keys_of es) → (id : ObjectId) → find id_cmp id (placed done es) ≡ or_else (lookup (id_eq id) es) (find id_cmp id done)
unfolding or_else
placed_found [] done apart id = refl
placed_found (e ∷ es) done apart id =
    placed_found es (put id_cmp e.0 e.1 done) (IsDistinct-tail id_eq e.0 (keys_of es) apart) id
    ∙ ap (or_else (lookup (id_eq id) es)) (find-put id_cmp ids_total id e.0 e.1 done ∙ ap (λ b. cond b (Some e.1) (find id_cmp id done)) (sym (ids_tie id e.0)))
    ∙ by (id_eq id e.0) refl
  where
    none_behind : id_eq id e.0 ≡ true → lookup (id_eq id) es ≡ None
    none_behind is = ap (λ i. lookup (id_eq i) es) (id_same id e.0 is) ∙ none_under e.0 es (IsDistinct-head id_eq e.0 (keys_of es) apart)

    by : (b : Bool) → id_eq id e.0 ≡ b → or_else (lookup (id_eq id) es) (cond b (Some e.1) (find id_cmp id done)) ≡ or_else (cond b (Some e.1) (lookup (id_eq id) es)) (find id_cmp id done)
    by true is = ap (λ o. or_else o (Some e.1)) (none_behind is)
    by false is = refl

placed_sorted : (es done : Entries) → T (is_sorted id_cmp done) → T (is_sorted id_cmp (placed done es))
placed_sorted [] done h = h
placed_sorted (e ∷ es) done h = placed_sorted es (put id_cmp e.0 e.1 done) (is_sorted-put id_cmp ids_total e.0 e.1 done h)

-- entries of which no id comes twice, put into their places, are those of the map
pub all_placed : (es : Entries) → IsDistinct id_eq (keys_of es) → placed [] es ≡ entries (objects_under es)
all_placed es apart = same_entries id_cmp ids_total ids_unique (placed [] es) (entries (objects_under es)) (placed_sorted es [] tt) (entries_sorted (objects_under es)) (λ id.
    placed_found es [] apart id ∙ none_else (lookup (id_eq id) es) ∙ sym (under es id) ∙ get-entries (objects_under es) id)

-- a sorted map puts an entry into its place
pub entry_put : (es : Entries) (id : ObjectId) (o : Object) → insert_entry id_cmp es id o ≡ put id_cmp id o es
entry_put [] id o = refl
entry_put (e ∷ es) id o = by (id_cmp id e.0) (entry_put es id o)
  where
    by : (r : Ordering) → insert_entry id_cmp es id o ≡ put id_cmp id o es
        → match_ordering r ((id, o) ∷ e ∷ es) ((e.0, o) ∷ es) (e ∷ insert_entry id_cmp es id o) ≡ by_order r ((id, o) ∷ e ∷ es) ((e.0, o) ∷ es) (e ∷ put id_cmp id o es)
    by Less more = refl
    by Equal more = refl
    by Greater more = ap (λ xs. e ∷ xs) more
