-- The locks of one epoch. Source: Sui Lutris, owned object locks.
use Rattle.std.specs.Prelude.{List, [], ◌∷◌, Option, Some, None, fold, if◌then◌else◌}
use Rattle.std.specs.Map.{lookup}
use Rattle.indexmap.specs.IndexMap.{insert_entry}
use Rattle.digest_core.specs.declared.Digest.{Digest}
use Rattle.chain_types.specs.declared.objects.ObjectKey.{ObjectKey}
use Rattle.chain_types.specs.Equal.{digest_eq, key_eq}

-- each locked version, and the transaction that it is locked for
abbrev pub Locks : Type 0
Locks = List (ObjectKey × Digest)

-- the transaction that holds the key
abbrev pub locked_by : Locks → ObjectKey → Option Digest
locked_by locks key = lookup (key_eq key) locks

-- all the keys are locked for the transaction: a new lock goes last
abbrev pub with_locks : Locks → List ObjectKey → Digest → Locks
with_locks locks keys tx = fold (λ done key. insert_entry key_eq done key tx) locks keys

-- a lock, if it is another transaction's
abbrev pub unless_own : ObjectKey → Digest → Option Digest → Option (ObjectKey × Digest)
unless_own key tx None = None
unless_own key tx (Some by) = if digest_eq by tx then None else Some (key, by)

-- the first lock, if there is one, else the second
abbrev pub or_other : Option (ObjectKey × Digest) → Option (ObjectKey × Digest) → Option (ObjectKey × Digest)
or_other None rest = rest
or_other (Some lock) rest = Some lock

-- the first of the keys that another transaction holds, and that transaction
abbrev pub other_lock : Locks → Digest → List ObjectKey → Option (ObjectKey × Digest)
other_lock locks tx [] = None
other_lock locks tx (key ∷ keys) = or_other (unless_own key tx (locked_by locks key)) (other_lock locks tx keys)
