-- What an epoch opens with, and what it left of that.
use Rattle.std.proofs.Common.{◌≡◌, ◌∙◌, refl, ap, sym, subst, ℕ, Bool, true, false, cond, List, [], ◌∷◌, ◌++◌, Option, Some, None, map}
use Rattle.std.specs.Prelude.{flat_map, fold, nat_lt}
use Rattle.std.specs.List.{list_any}
use Rattle.std.specs.Map.{lookup}
use Rattle.std.proofs.lemmas.List.{map-append}
use Rattle.chain_types.specs.declared.objects.Object.{Object}
use Rattle.chain_types.specs.declared.objects.ObjectId.{ObjectId}
use Rattle.chain_types.specs.Equal.{id_eq}
use Rattle.protocol_spec.proofs.Equality.{id_same, test_turned, id_self}
use Rattle.protocol_spec.proofs.Truth.{or_false}
use Rattle.protocol_spec.specs.Chain.Words.{Each, repeats}
use Rattle.protocol_spec.specs.Member.Admission.{opening_object}
use Rattle.protocol_spec.specs.Member.Versions.{live, live_list, newer, newest, object_in, opened, versions, with_live, written_by}
use Rattle.version_store.specs.declared.maps.Maps.{Maps}
use Rattle.version_store.specs.Bases.{IsHeld, based, object_under, stored_over}
use Rattle.version_store.specs.Changed.{AreChanged, IsSingle}
use Rattle.version_store.specs.Changes.{IsEmpty}
use Rattle.version_store.specs.Kept.{stored}
use Rattle.version_store.specs.Stores.{Stored, held_in}
use Rattle.version_store.proofs.Ascending.{apart, found_as, found_under, owned}
use Rattle.version_store.proofs.Based.{deleted_is, merge_none, newest_is}
use Rattle.version_store.proofs.Kept.{kept_empty}
use Rattle.version_store.proofs.Merging.{merge, newest_both, newest_none, version_id}
use Rattle.version_store.proofs.Rows.{IsOwn, newest_under}
use Rattle.version_store.proofs.Turned.{any_parts, live_by_ids, live_has, live_in, live_none, no_row}

-- ---- an object of the opening

-- under their ids, a look-up is one among the objects
object_found : (rows : List (ObjectId × Object)) → Each IsOwn rows → (id : ObjectId) → opening_object (map object_under rows) id ≡ lookup (id_eq id) rows
object_found [] own id = refl
object_found (e ∷ es) own id =
    ap (λ b. cond b (Some e.1) (opening_object (map object_under es) id)) (ap (λ i. id_eq i id) own.0 ∙ test_turned id_eq id_same id_self e.0 id)
    ∙ ap (cond (id_eq id e.0) (Some e.1)) (object_found es own.1 id)

module _ (s : Stored) where
  abbrev ids : List ObjectId
  ids = map version_id (held_in s)

  abbrev rows : List (ObjectId × Object)
  rows = fold with_live [] (map (live_in s) ids)

  -- the next epoch opens with what is live
  pub opening_live : (id : ObjectId) → opening_object (live_list s.opening s.executed) id ≡ live s.opening s.executed id
  opening_live id =
      ap (λ os. opening_object os id) (live_by_ids s)
      ∙ object_found rows (owned (map (live_in s) ids)) id
      ∙ sym (found_under id rows)
      ∙ found_as (live_in s) (live_has s) ids (λ i none. live_none s i (newest_none i (held_in s) none)) id

  -- an epoch opens with one object of each id
  pub single_live : IsSingle (live_list s.opening s.executed)
  single_live id =
      ap (λ os. newest id (map opened os)) (live_by_ids s)
      ∙ newest_under id rows (owned (map (live_in s) ids)) (apart (map (live_in s) ids))
      ∙ sym (object_found rows (owned (map (live_in s) ids)) id)
      ∙ sym (ap (λ os. opening_object os id) (live_by_ids s))

-- opening objects with distinct ids have one object of each id
pub single_apart : (os : List Object) → repeats id_eq (map (λ (o : Object). o.id) os) ≡ false → IsSingle os
single_apart [] once id = refl
single_apart (o ∷ os) once id =
    newest_both id (opened o ∷ []) (map opened os)
    ∙ by (id_eq o.id id) refl (or_false (list_any (id_eq o.id) (map (λ (x : Object). x.id) os)) (repeats id_eq (map (λ (x : Object). x.id) os)) once) (single_apart os)
  where
    ids_of : (xs : List Object) → map version_id (map opened xs) ≡ map (λ (x : Object). x.id) xs
    ids_of [] = refl
    ids_of (x ∷ xs) = ap (λ is. x.id ∷ is) (ids_of xs)

    by : (b : Bool) → id_eq o.id id ≡ b → (list_any (id_eq o.id) (map (λ (x : Object). x.id) os) ≡ false) × (repeats id_eq (map (λ (x : Object). x.id) os) ≡ false)
        → (repeats id_eq (map (λ (x : Object). x.id) os) ≡ false → (i : ObjectId) → newest i (map opened os) ≡ opening_object os i)
        → merge (newest id (opened o ∷ [])) (newest id (map opened os)) ≡ cond b (Some o) (opening_object os id)
    by true is off more =
        ap (merge (newest id (opened o ∷ []))) (newest_none id (map opened os) (ap (list_any (id_eq id)) (ids_of os) ∙ ap (λ i. list_any (id_eq i) (map (λ (x : Object). x.id) os)) (sym (id_same o.id id is)) ∙ off.0))
        ∙ ap (λ b. fold newer None (map object_in (cond b (opened o ∷ []) []))) is
    by false is off more =
        ap (λ b. merge (fold newer None (map object_in (cond b (opened o ∷ []) []))) (newest id (map opened os))) is
        ∙ merge_none (newest id (map opened os))
        ∙ more off.1 id

-- ---- what is untouched

module _ {turned : Bool} {entries : List (ObjectId × Object)} {opened_in : ℕ} {maps : Maps} (held : IsHeld turned entries opened_in maps) where
  abbrev all : Stored
  all = stored_over turned entries opened_in maps

  abbrev inner : Stored
  inner = stored opened_in maps

  first_none : (a b : Option Object) → merge a b ≡ None → a ≡ None
  first_none None b h = refl
  first_none (Some x) None h = absurd (cc)
  first_none (Some x) (Some y) h = absurd (some_newer (nat_lt x.version y.version) h)
    where
      some_newer : (b : Bool) → cond b (Some y) (Some x) ≡ None → ⊥
      some_newer true e = cc
      some_newer false e = cc

  inner_none : (id : ObjectId) → lookup (id_eq id) maps.newest.entries ≡ None → newest id (map opened inner.opening) ≡ None
  unfolding versions
  inner_none id none =
      first_none (newest id (map opened inner.opening)) (newest id (flat_map written_by inner.executed))
      (sym (newest_both id (map opened inner.opening) (flat_map written_by inner.executed)) ∙ sym (held.kept.newest id) ∙ none)

  pub untouched_all : AreChanged all (map (λ (e : ObjectId × Object). e.0) maps.newest.entries ++ maps.deleted.keys)
  unfolding live
  untouched_all id none =
      let parts = any_parts id (map (λ (e : ObjectId × Object). e.0) maps.newest.entries) maps.deleted.keys none in
      let absent = no_row id maps.newest.entries parts.0 in
      ap (λ d. cond d None (newest id (held_in all))) (sym (deleted_is held refl id) ∙ parts.1)
      ∙ newest_is held refl id
      ∙ ap (merge (lookup (id_eq id) entries)) absent
      ∙ sym (held.newest id)
      ∙ sym (ap (merge (newest id (map opened (based turned entries)))) (inner_none id absent))
      ∙ sym (newest_both id (map opened (based turned entries)) (map opened inner.opening))
      ∙ sym (ap (newest id) (map-append opened (based turned entries) inner.opening))

pub untouched : {turned : Bool} {entries : List (ObjectId × Object)} {opened_in : ℕ} {maps : Maps} {s : Stored} (first : List ObjectId) (ids : List ObjectId) → IsHeld turned entries opened_in maps → stored_over turned entries opened_in maps ≡ s
    → first ≡ map (λ (e : ObjectId × Object). e.0) maps.newest.entries → ids ≡ first ++ maps.deleted.keys → AreChanged s ids
untouched {turned} {entries} {opened_in} {maps} first ids held view is all =
    subst (λ (t : Stored). AreChanged t ids) view
    (subst (λ (is : List ObjectId). AreChanged (stored_over turned entries opened_in maps) is) (sym (all ∙ ap (λ (xs : List ObjectId). xs ++ maps.deleted.keys) is)) (untouched_all held))

-- ---- nothing

pub held_nothing : (entries : List (ObjectId × Object)) (maps : Maps) → entries ≡ [] → IsEmpty maps → IsHeld false entries 0 maps
held_nothing entries maps none empty = subst (λ (es : List (ObjectId × Object)). IsHeld false es 0 maps) (sym none) (record { kept = kept_empty maps empty; newest = λ id. refl; at = λ key. refl })
