-- The result of locking all the keys of a transaction, and the locks after it.
use Rattle.std.specs.Prelude.{◌≡◌, List, Result, Ok, Err, Some, None}
use Rattle.digest_core.specs.declared.Digest.{Digest}
use Rattle.chain_types.specs.declared.objects.ObjectKey.{ObjectKey}
use Rattle.lock_table.specs.declared.locks.LockRefusal.{LockRefusal}
use Rattle.lock_table.specs.declared.locks.LockRefusal.TheVariants as refusal
use Rattle.lock_table.specs.Locks.{Locks, other_lock, with_locks}

-- Ok: no key was locked for another transaction, and now all are for this one. Else the locks are as before; `Locked`
-- names the first key that is locked for another transaction
abbrev pub Refuses : Locks → Locks → List ObjectKey → Digest → Result (Unit {0}) LockRefusal → Type 0
Refuses old new keys tx (Ok done) = (other_lock old tx keys ≡ None) × (new ≡ with_locks old keys tx)
Refuses old new keys tx (Err (refusal.Locked key by)) = (other_lock old tx keys ≡ Some (key, by)) × (new ≡ old)
Refuses old new keys tx (Err refusal.OutOfMemory) = (other_lock old tx keys ≡ None) × (new ≡ old)
