-- What is promised of a `DiskLog`: of opening it, of appending to it, and of its use as a keeper. Source: this
-- profile.
use Rattle.std.specs.Prelude.{◌≡◌, ◌≢◌, ℕ, ◌+◌, ◌^◌, ◌<◌, ◌≤◌, Bool, true, false, List, [], ◌∷◌, ◌++◌, ◌⊎◌, ◌↔◌, ◌-◌, min, length, take, slice_index, slice_set, Option, Some, None, Result, Ok, Err}
use Rattle.outside.specs.Causes.{Rose}
use Rattle.outside.specs.Lists.{Journals}
use Rattle.outside.specs.declared.faults.OutFault.{OutFault}
use Rattle.outside.specs.declared.faults.OutFault.TheVariants as fault
use Rattle.disk_log.specs.declared.refusals.LogRefusal.{LogRefusal}
use Rattle.disk_log.specs.declared.refusals.LogRefusal.TheVariants as log
use Rattle.disk_log.specs.Disk.{History, IsImage, LeavesOnly, IfTold, Settles}
use Rattle.disk_log.specs.Log.{Rows, IsInside, IsListed, HasOldOrNew, IsReady}
use Rattle.disk_log.specs.Records.{Record, Whole, counted, records_to, journals_of, bad_member}

-- a log: its disk, where the gate stands after the acknowledged records, how many each member has, whether
-- an append met a fault of the disk, and its own count of faults
pub record LogState (D : Type 0) : Type 0 where
  pub disk : D
  pub end : ℕ
  pub counts : List ℕ
  pub shut : Bool
  pub faults : ℕ

-- the file up to the gate is whole records, and the index has the range of each
pub record IsKept (end : ℕ) (rows : Rows) (h : History) : Type 0 where
  pub whole : Whole (take end h.now.reads) (records_to h.now.reads end)
  pub inside : end < length h.now.reads
  pub lists : IsListed (take end h.now.reads) rows (records_to h.now.reads end)

-- the invariant of a log: its fields fit the disk's bytes, and unless it is shut the next record can be put at the
-- gate
pub record IsGood (told : Option History) (extent end members : ℕ) (shut : Bool) (rows : Rows) : Type 0 where
  pub width : length rows ≡ members
  pub inside : IsInside end rows
  pub gate : end < extent
  pub limit : end < 2 ^ 63
  pub kept : IfTold told (IsKept end rows)
  pub ready : shut ≡ false → IfTold told (λ h. IsReady h end)

-- the lists of the members, if the disk shows its bytes
abbrev pub told_lists : Option History → ℕ → ℕ → Option Journals
told_lists None end members = None
told_lists (Some h) end members = Some (journals_of members (records_to h.now.reads end))

-- in every file that a crash may leave now exactly these records count
abbrev pub LeavesRecords : History → List Record → Type 0
LeavesRecords h records = (image : List ℕ) → IsImage h.now image → counted image ≡ records

-- ---- appending

-- the acknowledged records after an append
abbrev pub records_behind : List Record → Record → Result (Unit {0}) LogRefusal → List Record
records_behind records r (Ok _) = records ++ r ∷ []
records_behind records r (Err _) = records

-- where the gate stands after an append
abbrev pub end_behind : ℕ → ℕ → Result (Unit {0}) LogRefusal → ℕ
end_behind end count (Ok _) = end + 9 + count
end_behind end count (Err _) = end

-- how many records the members have after an append
abbrev pub counts_behind : List ℕ → ℕ → Result (Unit {0}) LogRefusal → List ℕ
counts_behind counts member (Ok _) = slice_set counts member (slice_index counts member + 1)
counts_behind counts member (Err _) = counts

-- whether a log is shut after an append
abbrev pub shut_behind : Bool → Result (Unit {0}) LogRefusal → Bool
shut_behind shut (Err log.DiskFault) = true
shut_behind shut result = shut

-- At each moment of the call a crash leaves a file in which the acknowledged records count, and the one of this
-- call or not. After it the acknowledged records are those of before, with this one at Ok; and unless the disk
-- met a fault, a crash leaves a file in which they count and no others.
pub record IsAppended (old new : History) (end : ℕ) (r : Record) (result : Result (Unit {0}) LogRefusal) : Type 0 where
  pub any_moment : LeavesOnly (HasOldOrNew (records_to old.now.reads end) r) old new
  pub records : records_to new.now.reads (end_behind end (length r.bytes) result) ≡ records_behind (records_to old.now.reads end) r result
  pub between : result ≢ Err log.DiskFault → LeavesRecords new (records_behind (records_to old.now.reads end) r result)

-- `IsAppended` on a disk that shows its moments; one that does not stays so
abbrev pub Appends : Option History → Option History → ℕ → ℕ → List ℕ → Result (Unit {0}) LogRefusal → Type 0
Appends None new end member bytes result = new ≡ None
Appends (Some old) new end member bytes result =
    (h : History) × (new ≡ Some h) × IsAppended old h end (record { member = member; bytes = bytes }) result

-- the disk's count of faults never falls, and it rose if the append answers `DiskFault`
pub record AppendCause (before now : ℕ) (result : Result (Unit {0}) LogRefusal) : Type 0 where
  pub later : before ≤ now
  pub fault : result ≡ Err log.DiskFault → Rose before now

-- ---- opening

-- from the first sync on, at each moment a crash leaves a file in which the same records count as in the file that was
-- opened
abbrev pub OpensOnly : History → History → Type 0
OpensOnly old new = (synced : History) × Settles old (Some synced) × LeavesOnly (λ c. counted c ≡ counted old.now.reads) synced new

-- an open log has the records that counted in the file; their members are all known, and a crash leaves exactly them
pub record IsOpened (old new : History) (end members : ℕ) : Type 0 where
  pub any_moment : OpensOnly old new
  pub records : records_to new.now.reads end ≡ counted old.now.reads
  pub known : bad_member members 0 (counted old.now.reads) ≡ None
  pub between : LeavesRecords new (counted old.now.reads)

abbrev pub Opened : Option History → Option History → ℕ → ℕ → Type 0
Opened None new end members = new ≡ None
Opened (Some old) new end members = (h : History) × (new ≡ Some h) × IsOpened old h end members

-- an opening that was refused: the first sync failed and nothing changed, or `OpensOnly`
abbrev pub NotOpened : Option History → Option History → Type 0
NotOpened None new = new ≡ None
NotOpened (Some old) new = (new ≡ Some old) ⊎ ((h : History) × (new ≡ Some h) × OpensOnly old h)

-- ---- keeping

-- what a keeper answers of an append to the log, and what becomes of its count of faults
abbrev pub PassedOn : Result (Unit {0}) LogRefusal → Result (Unit {0}) OutFault → ℕ → ℕ → Type 0
PassedOn (Ok _) result before now = (result ≡ Ok tt) × (now ≡ before)
PassedOn (Err log.OutOfMemory) result before now = (result ≡ Err fault.OutOfMemory) × (now ≡ before)
PassedOn (Err refusal) result before now = (result ≡ Err fault.Failed) × (now ≡ min (before + 1) (2 ^ 64 - 1))

-- an append by the log as a keeper is an append to the log, with its answer passed on; and so is what a crash leaves
-- at each moment of it
pub record IsKeptAppend {D : Type 0} (history : D → Option History) (failed : D → ℕ) (old new : LogState D) (member : ℕ) (bytes : List ℕ) (result : Result (Unit {0}) OutFault) : Type 0 where
  pub answer : Result (Unit {0}) LogRefusal
  pub passed : PassedOn answer result old.faults new.faults
  pub appends : old.shut ≡ false → Appends (history old.disk) (history new.disk) old.end member bytes answer
  pub shut : (answer ≡ Err log.Shut) ↔ (old.shut ≡ true)
  pub cause : AppendCause (failed old.disk) (failed new.disk) answer
  pub stays : old.shut ≡ true → new.disk ≡ old.disk
  pub end : new.end ≡ end_behind old.end (length bytes) answer
  pub counts : new.counts ≡ counts_behind old.counts member answer
  pub shuts : new.shut ≡ shut_behind old.shut answer
