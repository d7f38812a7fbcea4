-- The versions that a member holds in an epoch. Source: Sui Lutris.
use Rattle.std.specs.Prelude.{Bool, nat_lt, List, [], ◌++◌, map, fold, flat_map, filter, find, Option, Some, None, is_some, if◌then◌else◌}
use Rattle.std.specs.List.{list_any}
use Rattle.std.specs.Ordering.{nat_cmp}
use Rattle.std.specs.declared.cmp.Ordering.{Ordering}
use Rattle.std.specs.Cmp.Lexicographic.{slice_cmp}
use Rattle.std.specs.FinMap.Entries.{put}
use Rattle.digest_core.specs.declared.Digest.{Digest}
use Rattle.chain_types.specs.declared.objects.ObjectId.{ObjectId}
use Rattle.chain_types.specs.declared.objects.ObjectKey.{ObjectKey}
use Rattle.chain_types.specs.declared.objects.Object.{Object}
use Rattle.chain_types.specs.declared.objects.Producer.{Producer}
use Rattle.chain_types.specs.declared.objects.Producer.TheVariants as producers
use Rattle.protocol_spec.specs.declared.pieces.Executed.{Executed}
use Rattle.chain_types.specs.Equal.{digest_eq, id_eq, key_eq}
use Rattle.protocol_spec.specs.Chain.Tests.{has_id, has_key}
use Rattle.protocol_spec.specs.Chain.Keys.{object_key}

-- a transaction that was executed: its digest, the versions that it consumed, and what it gave
pub record Execution : Type 0 where
  pub digest : Digest
  pub consumed : List ObjectKey
  pub gave : Executed

-- one held version, and who made it
pub record Version : Type 0 where
  pub object : Object
  pub producer : Producer

abbrev pub opened : Object → Version
opened o = record { object = o; producer = producers.Opening }

abbrev pub written : Digest → Object → Version
written by o = record { object = o; producer = producers.Tx by }

abbrev pub written_by : Execution → List Version
written_by x = map (written x.digest) x.gave.objects

-- the opening objects of the epoch, and all objects that the executed transactions wrote
unfoldable pub versions : List Object → List Execution → List Version
versions opening executed = map opened opening ++ flat_map written_by executed

abbrev pub is_key : ObjectKey → Version → Bool
is_key key v = key_eq (object_key v.object) key

abbrev pub is_id : ObjectId → Version → Bool
is_id id v = id_eq v.object.id id

-- the version of this key, none if it is not held
abbrev pub version_at : List Version → ObjectKey → Option Version
version_at held key = find (is_key key) held

abbrev pub object_in : Version → Object
object_in v = v.object

-- the execution of a transaction, none if it was not executed
abbrev pub execution_of : List Execution → Digest → Option Execution
execution_of executed tx = find (λ (x : Execution). digest_eq x.digest tx) executed

abbrev pub is_executed : List Execution → Digest → Bool
is_executed executed tx = is_some (execution_of executed tx)

-- the transaction that consumed this version, none if no executed one did
abbrev pub consumer_of : List Execution → ObjectKey → Option Execution
consumer_of executed key = find (λ (x : Execution). has_key x.consumed key) executed

-- ---- live objects

abbrev pub newer : Option Object → Object → Option Object
newer None o = Some o
newer (Some p) o = if nat_lt p.version o.version then Some o else Some p

-- the greatest version of an id
abbrev pub newest : ObjectId → List Version → Option Object
newest id held = fold newer None (map object_in (filter (is_id id) held))

abbrev pub is_deleted : List Execution → ObjectId → Bool
is_deleted executed id = list_any (λ (x : Execution). has_id x.gave.effects.deleted id) executed

-- the newest version of an id, none if none is held or the object was deleted
unfoldable pub live : List Object → List Execution → ObjectId → Option Object
live opening executed id = if is_deleted executed id then None else newest id (versions opening executed)

-- ids ascend as their bytes do
abbrev pub id_cmp : ObjectId → ObjectId → Ordering
id_cmp a b = slice_cmp nat_cmp a.0.0 b.0.0

-- an object under its id, in the order of the ids
abbrev pub with_live : List (ObjectId × Object) → Option Object → List (ObjectId × Object)
with_live entries None = entries
with_live entries (Some o) = put id_cmp o.id o entries

-- the live objects by ascending id
unfoldable pub live_list : List Object → List Execution → List Object
live_list opening executed =
    map (λ (e : ObjectId × Object). e.1)
    (fold with_live [] (map (λ (v : Version). live opening executed v.object.id) (versions opening executed)))
