-- Tests of equality of digests, ids and object keys.
use Rattle.std.specs.Prelude.{◌==◌, ◌&&◌, Bool, bytes_eq}
use Rattle.digest_core.specs.declared.Digest.{Digest}
use Rattle.chain_types.specs.declared.objects.ObjectId.{ObjectId}
use Rattle.chain_types.specs.declared.objects.ObjectKey.{ObjectKey}

-- two digests are equal
abbrev pub digest_eq : Digest → Digest → Bool
digest_eq a b = bytes_eq a.0 b.0

-- two ids are equal
abbrev pub id_eq : ObjectId → ObjectId → Bool
id_eq a b = digest_eq a.0 b.0

-- two keys are equal: one version of one object
abbrev pub key_eq : ObjectKey → ObjectKey → Bool
key_eq a b = id_eq a.id b.id && (a.version == b.version)
