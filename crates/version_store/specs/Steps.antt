-- One step of each map of a store.
use Rattle.std.specs.Prelude.{nat_lt, List, Option, Some, None, is_some, fold, if◌then◌else◌}
use Rattle.std.specs.Map.{lookup}
use Rattle.indexmap.specs.IndexMap.{insert_entry}
use Rattle.digest_core.specs.declared.Digest.{Digest}
use Rattle.chain_types.specs.declared.objects.Object.{Object}
use Rattle.chain_types.specs.declared.objects.ObjectId.{ObjectId}
use Rattle.chain_types.specs.declared.objects.ObjectKey.{ObjectKey}
use Rattle.chain_types.specs.declared.objects.Producer.{Producer}
use Rattle.chain_types.specs.Equal.{id_eq, key_eq}
use Rattle.protocol_spec.specs.Chain.Keys.{object_key}
use Rattle.version_store.specs.declared.maps.Kept.{Kept}

-- the versions with this object under its key
abbrev pub with_version : Producer → List (ObjectKey × Kept) → Object → List (ObjectKey × Kept)
with_version producer kept o = insert_entry key_eq kept (object_key o) (record { object = o; producer = producer })

abbrev pub with_versions : Producer → List (ObjectKey × Kept) → List Object → List (ObjectKey × Kept)
with_versions producer kept objects = fold (with_version producer) kept objects

-- the newer of an object and what is known
abbrev pub newer_of : Option Object → Object → Object
newer_of None o = o
newer_of (Some p) o = if nat_lt p.version o.version then o else p

abbrev pub with_newer : List (ObjectId × Object) → Object → List (ObjectId × Object)
with_newer live o = insert_entry id_eq live o.id (newer_of (lookup (id_eq o.id) live) o)

abbrev pub with_all_newer : List (ObjectId × Object) → List Object → List (ObjectId × Object)
with_all_newer live objects = fold with_newer live objects

-- the consumers with this transaction under the key, unless an earlier one is there
abbrev pub with_consumer : Digest → List (ObjectKey × Digest) → ObjectKey → List (ObjectKey × Digest)
with_consumer tx consumers key = if is_some (lookup (key_eq key) consumers) then consumers else insert_entry key_eq consumers key tx

abbrev pub with_consumers : Digest → List (ObjectKey × Digest) → List ObjectKey → List (ObjectKey × Digest)
with_consumers tx consumers keys = fold (with_consumer tx) consumers keys
