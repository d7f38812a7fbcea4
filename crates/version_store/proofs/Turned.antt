-- The store after the turn of an epoch: it opens with the live objects.
use Rattle.std.proofs.Common.{◌≡◌, ℕ, Bool, true, false, cond, ◌||◌, List, [], ◌∷◌, ◌++◌, Option, Some, None, map, refl, ap, sym, subst, ◌∙◌, option_map, append-nil}
use Rattle.std.specs.Prelude.{fold}
use Rattle.std.specs.List.{list_any}
use Rattle.std.specs.Map.{lookup}
use Rattle.std.proofs.lemmas.List.Sums.{fold-append}
use Rattle.chain_types.specs.declared.objects.Object.{Object}
use Rattle.chain_types.specs.declared.objects.ObjectId.{ObjectId}
use Rattle.chain_types.specs.declared.objects.ObjectKey.{ObjectKey}
use Rattle.chain_types.specs.declared.objects.Producer.TheVariants as producers
use Rattle.chain_types.specs.Equal.{id_eq}
use Rattle.protocol_spec.proofs.Equality.{id_same, test_turned, id_self}
use Rattle.protocol_spec.proofs.Truth.{or_false}
use Rattle.protocol_spec.specs.Chain.Words.{Each}
use Rattle.protocol_spec.specs.Member.Versions.{Version, is_deleted, live, live_list, newest, opened, version_at, with_live}
use Rattle.version_store.specs.declared.maps.Kept.{Kept}
use Rattle.version_store.specs.declared.maps.Maps.{Maps}
use Rattle.version_store.specs.Stores.{Stored, held_in, next_epoch}
use Rattle.version_store.specs.Kept.{kept_as, stored}
use Rattle.version_store.specs.Bases.{IsHeld, at_version, based, by_id, object_under, over, stored_over}
use Rattle.version_store.specs.Changes.{IsEmpty}
use Rattle.version_store.specs.Live.{add_live, all_live, kept_id}
use Rattle.version_store.specs.Steps.{with_all_newer}
use Rattle.version_store.proofs.Ascending.{apart, found_as, found_under, owned, placed, placed_under, same_found, same_live}
use Rattle.version_store.proofs.Based.{deleted_is, newest_is}
use Rattle.version_store.proofs.Kept.{kept_empty, opening_of, stored_empty}
use Rattle.version_store.proofs.Merging.{HasId, merge, newest_both, newest_has, newest_none, version_id}
use Rattle.version_store.proofs.Newest.{newest_more}
use Rattle.version_store.proofs.Rows.{AreApart, IsOwn, newest_under, own_from_lookups, version_under}

-- ---- the objects by ascending id

module _ (rows : List (ObjectId × Object)) (own : Each IsOwn rows) (separate : AreApart rows) where
  pub by_id_newest : (id : ObjectId) → newest id (map opened (by_id rows)) ≡ lookup (id_eq id) rows
  unfolding by_id
  by_id_newest id = newest_under id (placed rows) (owned (map (λ e. Some (object_under e)) rows)) (apart (map (λ e. Some (object_under e)) rows)) ∙ placed_under rows own separate id

  pub by_id_at : (key : ObjectKey) → version_at (map opened (by_id rows)) key ≡ option_map opened (at_version key.version (lookup (id_eq key.id) rows))
  unfolding by_id
  by_id_at key =
      version_under key (placed rows) (owned (map (λ e. Some (object_under e)) rows)) (apart (map (λ e. Some (object_under e)) rows))
      ∙ ap (λ o. option_map opened (at_version key.version o)) (placed_under rows own separate key.id)

-- ---- the live objects

pub live_has : (s : Stored) (id : ObjectId) → HasId id (live s.opening s.executed id)
unfolding live
live_has s id = by (is_deleted s.executed id) (newest_has id (held_in s))
  where
    by : (b : Bool) → HasId id (newest id (held_in s)) → HasId id (cond b None (newest id (held_in s)))
    by true h = tt
    by false h = h

pub live_none : (s : Stored) (id : ObjectId) → newest id (held_in s) ≡ None → live s.opening s.executed id ≡ None
unfolding live
live_none s id none = ap (cond (is_deleted s.executed id) None) none ∙ by (is_deleted s.executed id)
  where
    by : (b : Bool) → let none : Option Object = None in cond b none none ≡ none
    by true = refl
    by false = refl

abbrev pub live_in : Stored → ObjectId → Option Object
live_in s id = live s.opening s.executed id

live_folds : (s : Stored) (ids : List ObjectId) (entries : List (ObjectId × Object)) → all_live s entries ids ≡ fold with_live entries (map (live_in s) ids)
live_folds s [] entries = refl
live_folds s (i ∷ is) entries = live_folds s is (add_live s entries i)

ids_of_versions : (s : Stored) (held : List Version) → map (λ (v : Version). live_in s v.object.id) held ≡ map (live_in s) (map version_id held)
ids_of_versions s [] = refl
ids_of_versions s (v ∷ vs) = ap (λ os. live_in s v.object.id ∷ os) (ids_of_versions s vs)

-- the list of the live objects, by the ids of all versions
pub live_by_ids : (s : Stored) → live_list s.opening s.executed ≡ map object_under (fold with_live [] (map (live_in s) (map version_id (held_in s))))
unfolding live_list
live_by_ids s = ap (λ os. map object_under (fold with_live [] os)) (ids_of_versions s (held_in s))

-- rows that have what is live are the list of the live objects
live_rows : (s : Stored) (rows : List (ObjectId × Object)) → Each IsOwn rows → AreApart rows → ((id : ObjectId) → lookup (id_eq id) rows ≡ live_in s id) → by_id rows ≡ live_list s.opening s.executed
unfolding by_id
live_rows s rows own separate same =
    ap (map object_under) (same_found (map (λ e. Some (object_under e)) rows) (map (live_in s) (map version_id (held_in s)))
    (λ id.
    found_under id (placed rows) ∙ placed_under rows own separate id ∙ same id
    ∙ sym (found_as (live_in s) (live_has s) (map version_id (held_in s)) (λ i none. live_none s i (newest_none i (held_in s) none)) id)))
    ∙ sym (live_by_ids s)

-- ---- what the list of the live objects is made of

pub any_parts : (id : ObjectId) (xs ys : List ObjectId) → list_any (id_eq id) (xs ++ ys) ≡ false → (list_any (id_eq id) xs ≡ false) × (list_any (id_eq id) ys ≡ false)
any_parts id [] ys h = (refl, h)
any_parts id (x ∷ xs) ys h =
    let p : (id_eq id x ≡ false) × (list_any (id_eq id) (xs ++ ys) ≡ false) = or_false (id_eq id x) (list_any (id_eq id) (xs ++ ys)) h in
    let q : (list_any (id_eq id) xs ≡ false) × (list_any (id_eq id) ys ≡ false) = any_parts id xs ys p.1 in
    (ap (λ b. b || list_any (id_eq id) xs) p.0 ∙ q.0, q.1)

pub no_row : (id : ObjectId) (rows : List (ObjectId × Object)) → list_any (id_eq id) (map (λ (e : ObjectId × Object). e.0) rows) ≡ false → lookup (id_eq id) rows ≡ None
no_row id [] h = refl
no_row id (e ∷ es) h =
    let p : (id_eq id e.0 ≡ false) × (list_any (id_eq id) (map (λ (f : ObjectId × Object). f.0) es) ≡ false) = or_false (id_eq id e.0) (list_any (id_eq id) (map (λ (f : ObjectId × Object). f.0) es)) h in
    ap (λ b. cond b (Some e.1) (lookup (id_eq id) es)) p.0 ∙ no_row id es p.1

ids_kept : (held : List Version) → map kept_id (map (λ (e : ObjectKey × Kept). e.1) (map kept_as held)) ≡ map version_id held
ids_kept [] = refl
ids_kept (v ∷ vs) = ap (λ is. v.object.id ∷ is) (ids_kept vs)

module _ {turned : Bool} {entries : List (ObjectId × Object)} {opened_in : ℕ} {maps : Maps} {s : Stored} (held : IsHeld turned entries opened_in maps) (view : stored_over turned entries opened_in maps ≡ s) where
  abbrev base_ids : List ObjectId
  base_ids = map (λ (e : ObjectId × Object). e.0) entries

  abbrev map_ids : List ObjectId
  map_ids = map version_id (held_in (stored opened_in maps))

  covered : (id : ObjectId) → list_any (id_eq id) (base_ids ++ map_ids) ≡ false → live_in s id ≡ None
  covered id none =
      let p : (list_any (id_eq id) base_ids ≡ false) × (list_any (id_eq id) map_ids ≡ false) = any_parts id base_ids map_ids none in
      live_none s id
      (newest_is held view id
      ∙ ap (λ o. merge o (lookup (id_eq id) maps.newest.entries)) (no_row id entries p.0)
      ∙ ap (merge None) (held.kept.newest id ∙ newest_none id (held_in (stored opened_in maps)) p.1))

  -- the live objects of the ids of the base and of the maps are all of them
  pub lists_live : map object_under (all_live s (all_live s [] base_ids) (map kept_id (map (λ (e : ObjectKey × Kept). e.1) maps.versions.entries))) ≡ live_list s.opening s.executed
  lists_live =
      ap (λ es. map object_under (all_live s (all_live s [] base_ids) (map kept_id (map (λ (e : ObjectKey × Kept). e.1) es)))) held.kept.versions
      ∙ ap (λ is. map object_under (all_live s (all_live s [] base_ids) is)) (ids_kept (held_in (stored opened_in maps)))
      ∙ ap (map object_under) (sym (fold-append (add_live s) [] base_ids map_ids))
      ∙ ap (map object_under) (live_folds s (base_ids ++ map_ids) [])
      ∙ ap (map object_under) (same_live (live_in s) (live_has s) (base_ids ++ map_ids) (map version_id (held_in s)) covered (λ i none. live_none s i (newest_none i (held_in s) none)))
      ∙ sym (live_by_ids s)

-- ---- the turn

-- what the base has once the newest of the maps are put into it, and the deleted ids are taken out
pub record IsFolded (maps : Maps) (entries more left : List (ObjectId × Object)) : Type 0 where
  pub added : more ≡ with_all_newer entries (map (λ (e : ObjectId × Object). e.1) maps.newest.entries)
  pub distinct : AreApart maps.newest.entries
  pub taken : (id : ObjectId) → lookup (id_eq id) left ≡ cond (list_any (id_eq id) maps.deleted.keys) None (lookup (id_eq id) more)
  pub separate : AreApart left

module _ {turned : Bool} {entries more left : List (ObjectId × Object)} {opened_in : ℕ} {maps : Maps} {s : Stored} (held : IsHeld turned entries opened_in maps) (view : stored_over turned entries opened_in maps ≡ s)
    (folded : IsFolded maps entries more left) where
  abbrev written_objects : List Object
  written_objects = map (λ (e : ObjectId × Object). e.1) maps.newest.entries

  newest_own : Each IsOwn maps.newest.entries
  newest_own = own_from_lookups maps.newest.entries folded.distinct (λ id. subst (HasId id) (sym (held.kept.newest id)) (newest_has id (held_in (stored opened_in maps))))

  newest_added : (id : ObjectId) → lookup (id_eq id) more ≡ newest id (held_in s)
  newest_added id =
      ap (lookup (id_eq id)) folded.added
      ∙ newest_more written_objects entries (map opened (based turned entries)) producers.Opening (λ i. sym (held.newest i)) id
      ∙ newest_both id (map opened (based turned entries)) (map opened written_objects)
      ∙ ap (λ o. merge o (newest id (map opened written_objects))) (held.newest id)
      ∙ ap (merge (lookup (id_eq id) entries)) (newest_under id maps.newest.entries newest_own folded.distinct)
      ∙ sym (newest_is held view id)

  live_left : (id : ObjectId) → lookup (id_eq id) left ≡ live_in s id
  unfolding live
  live_left id =
      folded.taken id
      ∙ ap (cond (list_any (id_eq id) maps.deleted.keys) None) (newest_added id)
      ∙ ap (λ d. cond d None (newest id (held_in s))) (deleted_is held view id)

  left_own : Each IsOwn left
  left_own = own_from_lookups left folded.separate (λ id. subst (HasId id) (sym (live_left id)) (live_has s id))

  pub turned_held : (none : Maps) → IsEmpty none → IsHeld true left 0 none
  turned_held none empty = record {
    kept = kept_empty none empty;
    newest = by_id_newest left left_own folded.separate;
    at = by_id_at left left_own folded.separate;
  }

  pub turned_stands : (none : Maps) → IsEmpty none → stored_over true left 0 none ≡ next_epoch s
  turned_stands none empty =
      ap (over (by_id left)) (stored_empty none empty)
      ∙ ap opening_of (append-nil (by_id left) ∙ live_rows s left left_own folded.separate live_left)

-- one id more is taken out
pub takes_one : (id k : ObjectId) (rest : List ObjectId) (new old : Option Object) → new ≡ cond (id_eq k id) None old
    → cond (list_any (id_eq id) rest) None new ≡ cond (list_any (id_eq id) (k ∷ rest)) None old
takes_one id k rest new old is =
    ap (cond (list_any (id_eq id) rest) None) (is ∙ ap (λ b. cond b None old) (test_turned id_eq id_same id_self k id))
    ∙ by (id_eq id k) (list_any (id_eq id) rest)
  where
    by : (a b : Bool) → let none : Option Object = None in cond b none (cond a none old) ≡ cond (a || b) none old
    by true true = refl
    by true false = refl
    by false b = refl

-- what the call rests on
pub turns : {turned : Bool} {entries mid : List (ObjectId × Object)} (more left : List (ObjectId × Object)) {opened_in : ℕ} {maps none : Maps} {s : Stored} → IsHeld turned entries opened_in maps → stored_over turned entries opened_in maps ≡ s
    → mid ≡ entries → more ≡ with_all_newer mid (map (λ (e : ObjectId × Object). e.1) maps.newest.entries) → AreApart maps.newest.entries
    → ((id : ObjectId) → lookup (id_eq id) left ≡ cond (list_any (id_eq id) maps.deleted.keys) None (lookup (id_eq id) more)) → AreApart left → IsEmpty none
    → IsHeld true left 0 none × (stored_over true left 0 none ≡ next_epoch s)
turns {turned} {entries} {mid} more left {opened_in} {maps} {none} {s} held view same added distinct taken separate empty =
    let folded : IsFolded maps entries more left = record {
      added = added ∙ ap (λ es. with_all_newer es (map (λ (e : ObjectId × Object). e.1) maps.newest.entries)) same;
      distinct = distinct;
      taken = taken;
      separate = separate;
    } in
    (turned_held held view folded none empty, turned_stands held view folded none empty)
