-- The opening objects by ascending id, as they are put together.
use Rattle.std.proofs.Common.{◌≡◌, ◌∙◌, refl, ap, sym, ℕ, Bool, true, false, List, [], ◌∷◌, ◌++◌, Some, map}
use Rattle.std.specs.Prelude.{flat_map, fold}
use Rattle.digest_core.specs.declared.Digest.{Digest}
use Rattle.chain_types.specs.declared.objects.Object.{Object}
use Rattle.chain_types.specs.declared.objects.ObjectId.{ObjectId}
use Rattle.chain_types.specs.declared.objects.ObjectKey.{ObjectKey}
use Rattle.protocol_spec.specs.Member.Versions.{Execution, Version, opened, versions, with_live, written, written_by}
use Rattle.version_store.specs.declared.maps.Kept.{Kept}
use Rattle.version_store.specs.declared.maps.Maps.{Maps}
use Rattle.version_store.specs.Bases.{IsHeld, based, by_id, object_under, stored_over}
use Rattle.version_store.specs.Kept.{kept_as, stored}
use Rattle.version_store.specs.Openings.{all_opened, all_placed, ascending}
use Rattle.version_store.specs.Stores.{Stored, held_in}
use Rattle.version_store.proofs.Ascending.{Entries, apart, found_under, owned, placed, placed_under, same_found}

-- ---- objects in their places

map_twice : {A B C : Type 0} → (f : A → B) (g : B → C) (xs : List A) → map g (map f xs) ≡ map (λ x. g (f x)) xs
map_twice f g [] = refl
map_twice f g (x ∷ xs) = ap (λ ys. g (f x) ∷ ys) (map_twice f g xs)

placed_more : (entries : Entries) (xs ys : List Object) → all_placed entries (xs ++ ys) ≡ all_placed (all_placed entries xs) ys
placed_more entries [] ys = refl
placed_more entries (x ∷ xs) ys = placed_more (with_live entries (Some x)) xs ys

rows_placed : (rows : Entries) → all_placed [] (map object_under rows) ≡ placed rows
rows_placed rows = ap (fold with_live []) (map_twice object_under (λ (o : Object). Some o) rows)

-- what is in its place stays there
placed_again : (rows : Entries) → placed (placed rows) ≡ placed rows
placed_again rows =
    let objects = map (λ (e : ObjectId × Object). Some (object_under e)) rows in
    same_found (map (λ (e : ObjectId × Object). Some (object_under e)) (placed rows)) objects
    (λ id.
    found_under id (placed (placed rows)) ∙ placed_under (placed rows) (owned objects) (apart objects) id
    ∙ sym (found_under id (placed rows)))

based_placed : (turned : Bool) (rows : Entries) → all_placed [] (based turned rows) ≡ all_placed [] (map object_under rows)
unfolding by_id
based_placed true rows = rows_placed (placed rows) ∙ placed_again rows ∙ sym (rows_placed rows)
based_placed false rows = refl

-- ---- the versions with which the epoch opened

abbrev kept_of : Version → Kept
kept_of v = (kept_as v).1

opened_first : (xs : List Object) (rest : List Version) (entries : Entries) → all_opened entries (map kept_of (map opened xs ++ rest)) ≡ all_opened (all_placed entries xs) (map kept_of rest)
opened_first [] rest entries = refl
opened_first (x ∷ xs) rest entries = opened_first xs rest (with_live entries (Some x))

written_not : (by : Digest) (xs : List Object) (rest : List Version) (entries : Entries) → all_opened entries (map kept_of (map (written by) xs ++ rest)) ≡ all_opened entries (map kept_of rest)
written_not by [] rest entries = refl
written_not by (x ∷ xs) rest entries = written_not by xs rest entries

executed_not : (executed : List Execution) (entries : Entries) → all_opened entries (map kept_of (flat_map written_by executed)) ≡ entries
executed_not [] entries = refl
executed_not (x ∷ xs) entries = written_not x.digest x.gave.objects (flat_map written_by xs) entries ∙ executed_not xs entries

opened_among : (s : Stored) (entries : Entries) → all_opened entries (map kept_of (held_in s)) ≡ all_placed entries s.opening
unfolding versions
opened_among s entries = opened_first s.opening (flat_map written_by s.executed) entries ∙ executed_not s.executed (all_placed entries s.opening)

-- ---- the whole

module _ {turned : Bool} {entries : Entries} {opened_in : ℕ} {maps : Maps} {s : Stored} (held : IsHeld turned entries opened_in maps) (view : stored_over turned entries opened_in maps ≡ s) where
  -- the objects of the base, and the versions of the opening among the maps', are all that the epoch opened with
  pub lists_opening : map object_under (all_opened (all_placed [] (map object_under entries)) (map (λ (e : ObjectKey × Kept). e.1) maps.versions.entries)) ≡ ascending s.opening
  lists_opening =
      ap (map object_under)
      (ap (λ (es : List (ObjectKey × Kept)). all_opened (all_placed [] (map object_under entries)) (map (λ (e : ObjectKey × Kept). e.1) es)) held.kept.versions
      ∙ ap (all_opened (all_placed [] (map object_under entries))) (map_twice kept_as (λ (e : ObjectKey × Kept). e.1) (held_in (stored opened_in maps)))
      ∙ opened_among (stored opened_in maps) (all_placed [] (map object_under entries))
      ∙ ap (λ (es : Entries). all_placed es (stored opened_in maps).opening) (sym (based_placed turned entries))
      ∙ sym (placed_more [] (based turned entries) (stored opened_in maps).opening))
      ∙ ap (λ (x : Stored). ascending x.opening) view
