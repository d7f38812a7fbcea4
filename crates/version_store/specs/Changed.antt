-- Which ids an epoch changed. Source: Sui Lutris.
use Rattle.std.specs.Prelude.{◌≡◌, false, List, map}
use Rattle.std.specs.List.{list_any}
use Rattle.chain_types.specs.declared.objects.Object.{Object}
use Rattle.chain_types.specs.declared.objects.ObjectId.{ObjectId}
use Rattle.chain_types.specs.Equal.{id_eq}
use Rattle.protocol_spec.specs.Member.Admission.{opening_object}
use Rattle.protocol_spec.specs.Member.Versions.{live, newest, opened}
use Rattle.version_store.specs.Stores.{Stored}

-- of every id that is not among these the live object is that with which the epoch opened
abbrev pub AreChanged : Stored → List ObjectId → Type 0
AreChanged s ids = (id : ObjectId) → list_any (id_eq id) ids ≡ false → live s.opening s.executed id ≡ newest id (map opened s.opening)

-- the newest object of an id in the opening is its only one: what holds if no two objects have one id
abbrev pub IsSingle : List Object → Type 0
IsSingle opening = (id : ObjectId) → newest id (map opened opening) ≡ opening_object opening id
