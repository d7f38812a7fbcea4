-- The loop that collects the live objects of a store by ascending id.
use Rattle.std.specs.Prelude.{List, fold}
use Rattle.chain_types.specs.declared.objects.Object.{Object}
use Rattle.chain_types.specs.declared.objects.ObjectId.{ObjectId}
use Rattle.protocol_spec.specs.Member.Versions.{live, with_live}
use Rattle.version_store.specs.declared.maps.Kept.{Kept}
use Rattle.version_store.specs.Stores.{Stored}

-- the entries with the live object of this id, if there is one
abbrev pub add_live : Stored → List (ObjectId × Object) → ObjectId → List (ObjectId × Object)
add_live s entries id = with_live entries (live s.opening s.executed id)

-- the entries with the live objects of these ids
abbrev pub all_live : Stored → List (ObjectId × Object) → List ObjectId → List (ObjectId × Object)
all_live s entries ids = fold (add_live s) entries ids

abbrev pub kept_id : Kept → ObjectId
kept_id k = k.object.id
