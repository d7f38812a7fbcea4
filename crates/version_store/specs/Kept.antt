-- What the maps of a store stand for, and how they are kept.
use Rattle.std.specs.Prelude.{◌≡◌, ℕ, ◌+◌, List, [], ◌∷◌, map, take, drop, length, option_map}
use Rattle.std.specs.List.{list_any}
use Rattle.std.specs.Map.{lookup}
use Rattle.digest_core.specs.declared.Digest.{Digest}
use Rattle.chain_types.specs.declared.objects.Object.{Object}
use Rattle.chain_types.specs.declared.objects.ObjectId.{ObjectId}
use Rattle.chain_types.specs.declared.objects.ObjectKey.{ObjectKey}
use Rattle.chain_types.specs.Equal.{id_eq, key_eq}
use Rattle.protocol_spec.specs.Chain.Keys.{object_key}
use Rattle.protocol_spec.specs.Member.Versions.{Execution, Version, newest, is_deleted, consumer_of}
use Rattle.version_store.specs.declared.maps.Kept.{Kept}
use Rattle.version_store.specs.declared.maps.Maps.{Maps}
use Rattle.version_store.specs.declared.maps.Ran.{Ran}
use Rattle.version_store.specs.Stores.{Stored, held_in}

-- ---- what the maps stand for

abbrev pub kept_object : ObjectKey × Kept → Object
kept_object e = e.1.object

abbrev pub ran_as : Digest → Ran → List Object → Execution
ran_as digest ran objects = record {
  digest = digest;
  consumed = ran.consumed;
  gave = record { effects = ran.effects; objects = objects };
}

-- the executions, each with its share of the written objects
abbrev pub executions : List (Digest × Ran) → List Object → List Execution
executions [] objects = []
executions (e ∷ es) objects = ran_as e.0 e.1 (take e.1.written objects) ∷ executions es (drop e.1.written objects)

-- the store that the maps stand for: of all objects the first `opened` are the opening, and the others were written
abbrev pub stored_as : ℕ → List Object → List (Digest × Ran) → Stored
stored_as opened objects ran = record { opening = take opened objects; executed = executions ran (drop opened objects) }

abbrev pub stored : ℕ → Maps → Stored
stored opened maps = stored_as opened (map kept_object maps.versions.entries) maps.executed.entries

-- ---- how the maps are kept

abbrev pub kept_as : Version → ObjectKey × Kept
kept_as v = (object_key v.object, record { object = v.object; producer = v.producer })

-- how many objects were written by executions
abbrev pub written_in : List (Digest × Ran) → ℕ
written_in [] = 0
written_in (e ∷ es) = e.1.written + written_in es

-- every version stands under its key, the newest under its id, the deleted ids are marked, and so is the
-- transaction that consumed a key; the counts share the objects out among the opening and the executions
pub record IsKept (opened : ℕ) (maps : Maps) : Type 0 where
  pub versions : maps.versions.entries ≡ map kept_as (held_in (stored opened maps))
  pub newest : (id : ObjectId) → lookup (id_eq id) maps.newest.entries ≡ newest id (held_in (stored opened maps))
  pub deleted : (id : ObjectId) → list_any (id_eq id) maps.deleted.keys ≡ is_deleted (stored opened maps).executed id
  pub consumers : (key : ObjectKey) → lookup (key_eq key) maps.consumers.entries ≡ option_map (λ (x : Execution). x.digest) (consumer_of (stored opened maps).executed key)
  pub counts : opened + written_in maps.executed.entries ≡ length maps.versions.entries
