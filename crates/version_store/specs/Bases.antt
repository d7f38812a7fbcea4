-- The base of a store: the objects with which the epoch opened, one version of each id, in a map from id to object.
use Rattle.std.specs.Prelude.{◌≡◌, ℕ, Bool, ◌==◌, List, [], ◌∷◌, ◌++◌, map, fold, Option, Some, None, is_some, option_map, if◌then◌else◌}
use Rattle.std.specs.Map.{lookup}
use Rattle.chain_types.specs.declared.objects.Object.{Object}
use Rattle.chain_types.specs.declared.objects.ObjectId.{ObjectId}
use Rattle.chain_types.specs.declared.objects.ObjectKey.{ObjectKey}
use Rattle.chain_types.specs.Equal.{id_eq}
use Rattle.protocol_spec.specs.Member.Versions.{newest, opened, version_at, with_live}
use Rattle.version_store.specs.declared.maps.Maps.{Maps}
use Rattle.version_store.specs.Stores.{Stored}
use Rattle.version_store.specs.Kept.{IsKept, stored}

-- the object under an id
abbrev pub object_under : ObjectId × Object → Object
object_under e = e.1

-- the objects by ascending id
unfoldable pub by_id : List (ObjectId × Object) → List Object
by_id entries = map object_under (fold with_live [] (map (λ e. Some (object_under e)) entries))

-- the base as a list: in the order of insertion in epoch 0, that of the set-up, and by ascending id after a turn
abbrev pub based : Bool → List (ObjectId × Object) → List Object
based turned entries = if turned then by_id entries else map object_under entries

-- the store with these objects before those of its opening
abbrev pub over : List Object → Stored → Stored
over objects s = record { opening = objects ++ s.opening; executed = s.executed }

abbrev pub stored_over : Bool → List (ObjectId × Object) → ℕ → Maps → Stored
stored_over turned entries opened maps = over (based turned entries) (stored opened maps)

-- an object, if it has this version
abbrev pub at_version : ℕ → Option Object → Option Object
at_version version None = None
at_version version (Some o) = if o.version == version then Some o else None

-- the map, and after it the objects of the list, each under its id, that come before the first whose id the map has by
-- then
abbrev pub front_entries : List (ObjectId × Object) → List Object → List (ObjectId × Object)
front_entries done [] = done
front_entries done (o ∷ os) = if is_some (lookup (id_eq o.id) done) then done else front_entries (done ++ (o.id, o) ∷ []) os

-- the maps are kept, and looking up an id, or a key, in the base gives what a search of its list gives
pub record IsHeld (turned : Bool) (entries : List (ObjectId × Object)) (opened_in : ℕ) (maps : Maps) : Type 0 where
  pub kept : IsKept opened_in maps
  pub newest : (id : ObjectId) → newest id (map opened (based turned entries)) ≡ lookup (id_eq id) entries
  pub at : (key : ObjectKey) → version_at (map opened (based turned entries)) key ≡ option_map opened (at_version key.version (lookup (id_eq key.id) entries))
