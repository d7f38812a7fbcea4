-- The objects with which an epoch opens, by ascending id.
use Rattle.std.specs.Prelude.{List, [], map, fold, Some}
use Rattle.chain_types.specs.declared.objects.Object.{Object}
use Rattle.chain_types.specs.declared.objects.ObjectId.{ObjectId}
use Rattle.chain_types.specs.declared.objects.Producer.{Producer}
use Rattle.chain_types.specs.declared.objects.Producer.TheVariants as producers
use Rattle.protocol_spec.specs.Member.Versions.{with_live}
use Rattle.version_store.specs.declared.maps.Kept.{Kept}
use Rattle.version_store.specs.Bases.{object_under}

-- the entries with these objects, each under its id; of two with one id the last counts
abbrev pub all_placed : List (ObjectId × Object) → List Object → List (ObjectId × Object)
all_placed entries objects = fold with_live entries (map (λ (o : Object). Some o) objects)

-- the objects by ascending id; of two with one id the last
abbrev pub ascending : List Object → List Object
ascending objects = map object_under (all_placed [] objects)

-- the objects by id, with this version added if the epoch opened with it
abbrev pub with_opened : List (ObjectId × Object) → Producer → Object → List (ObjectId × Object)
with_opened entries producers.Opening o = with_live entries (Some o)
with_opened entries (producers.Tx by) o = entries

abbrev pub all_opened : List (ObjectId × Object) → List Kept → List (ObjectId × Object)
all_opened entries kept = fold (λ (done : List (ObjectId × Object)) (k : Kept). with_opened done k.producer k.object) entries kept
