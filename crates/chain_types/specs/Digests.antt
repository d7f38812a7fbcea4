-- The digests of objects and transactions (this profile: tagged SHA-256 of the encoding); which versions a
-- transaction consumes, how many objects it has, and the version that it writes (Sui documentation:
-- versions are Lamport clocks; which versions count is this profile's choice).
use Rattle.std.specs.Prelude.{ℕ, suc, max, Bool, true, false, List, ◌∷◌, length, filter, filter_map, fold, Option, Some, None}
use Rattle.digest_core.specs.declared.Digest.{Digest}
use Rattle.digest_core.specs.Tagged.{object_tag, tagged_digest, transaction_tag}
use Rattle.chain_types.specs.declared.objects.Object.{Object}
use Rattle.chain_types.specs.declared.objects.ObjectKey.{ObjectKey}
use Rattle.chain_types.specs.declared.objects.ObjectRef.{ObjectRef}
use Rattle.chain_types.specs.declared.transactions.Input.{Input}
use Rattle.chain_types.specs.declared.transactions.Input.TheVariants as inputs
use Rattle.chain_types.specs.declared.transactions.Transaction.{Transaction}
use Rattle.chain_types.specs.Objects.{object}
use Rattle.chain_types.specs.Transactions.{transaction}

-- the digest of an object
unfoldable pub digest_of_object : Object → Digest
digest_of_object o = tagged_digest object_tag (object.spell o)

-- the digest of a transaction
unfoldable pub transaction_digest : Transaction → Digest
transaction_digest t = tagged_digest transaction_tag (transaction.spell t)

-- the key that a reference names
abbrev pub key_of : ObjectRef → ObjectKey
key_of r = record { id = r.id; version = r.version }

-- the key that an input consumes
abbrev pub consumed_key : Input → Option ObjectKey
consumed_key (inputs.Owned r) = Some (key_of r)
consumed_key (inputs.Pure bytes) = None
consumed_key (inputs.Immutable r) = None
consumed_key (inputs.Shared id initial mutable) = None

-- the consumed keys, gas first
unfoldable pub consumed_keys : Transaction → List ObjectKey
consumed_keys t = filter_map consumed_key (inputs.Owned t.gas ∷ t.inputs)

abbrev pub is_object : Input → Bool
is_object (inputs.Pure bytes) = false
is_object (inputs.Owned r) = true
is_object (inputs.Immutable r) = true
is_object (inputs.Shared id initial mutable) = true

-- the objects are the gas coin and the inputs other than Pure
unfoldable pub object_count : Transaction → ℕ
object_count t = length (filter is_object (inputs.Owned t.gas ∷ t.inputs))

-- 1 and the greatest version
unfoldable pub lamport_version : List ℕ → ℕ
lamport_version versions = suc (fold max 0 versions)
