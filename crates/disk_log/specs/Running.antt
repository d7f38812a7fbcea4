-- The log as a run's keeper, and the records that it leaves on the disk. Source: this profile.
use Rattle.std.specs.Prelude.{◌≡◌, ◌⊎◌, ◌↔◌, ℕ, ◌<◌, Bool, true, false, IsTrue, List, [], ◌∷◌, ◌++◌, length, Option, Some, None, Result, Ok, Err}
use Rattle.outside.specs.Lists.{Journals}
use Rattle.outside.specs.declared.faults.OutFault.{OutFault}
use Rattle.outside.specs.declared.faults.OutFault.TheVariants as fault
use Rattle.disk_log.specs.declared.refusals.LogRefusal.{LogRefusal}
use Rattle.disk_log.specs.declared.refusals.LogRefusal.TheVariants as log
use Rattle.disk_log.specs.Disk.{History, IsImage, IfTold}
use Rattle.disk_log.specs.Records.{Record, counted, records_to, journals_of}
use Rattle.disk_log.specs.Keeping.{Appends, LeavesRecords, end_behind}

-- the records that count in a file are these; once a call of the disk has failed, these or these and one more
abbrev pub HasRecords : ℕ → List Record → List ℕ → Type 0
HasRecords faults records file = (counted file ≡ records) ⊎ ((0 < faults) × (r : Record) × (counted file ≡ records ++ r ∷ []))

-- `HasRecords` of each file that a crash may leave now
abbrev pub LeavesThese : ℕ → List Record → History → Type 0
LeavesThese faults records h = (image : List ℕ) → IsImage h.now image → HasRecords faults records image

-- `HasRecords` of what reads give, and of each file that a crash may leave now
pub record Holds (faults : ℕ) (records : List Record) (h : History) : Type 0 where
  pub reads : HasRecords faults records h.now.reads
  pub crash : LeavesThese faults records h

-- a disk that shows its bytes holds these lists of so many members; one that does not shows none
abbrev pub HoldsLists : ℕ → ℕ → Option History → Option Journals → Type 0
HoldsLists members faults None lists = lists ≡ None
HoldsLists members faults (Some h) lists = (records : List Record) × (lists ≡ Some (journals_of members records)) × Holds faults records h

-- the invariant of a run's log: the disk holds the records up to its gate, and it is shut only if a call of the disk
-- has failed
pub record IsRunning (told : Option History) (faults end : ℕ) (shut : Bool) : Type 0 where
  pub left : IfTold told (λ h. LeavesThese faults (records_to h.now.reads end) h)
  pub stopped : shut ≡ true → 0 < faults

-- what a run is answered for an append to its log: a fault is one of the disk, and all else is running out of memory
abbrev pub run_answer : Result (Unit {0}) LogRefusal → Result (Unit {0}) OutFault
run_answer (Ok done) = Ok done
run_answer (Err log.DiskFault) = Err fault.Failed
run_answer (Err refusal) = Err fault.OutOfMemory

-- an append by a run's log is an append to the log, and so is what a crash leaves at each moment of it
pub record IsRunAppend (told told' : Option History) (end end' : ℕ) (shut : Bool) (member : ℕ) (bytes : List ℕ) (result : Result (Unit {0}) OutFault) : Type 0 where
  pub answer : Result (Unit {0}) LogRefusal
  pub passed : result ≡ run_answer answer
  pub appends : shut ≡ false → Appends told told' end member bytes answer
  pub shuts : (answer ≡ Err log.Shut) ↔ (shut ≡ true)
  pub gate : end' ≡ end_behind end (length bytes) answer

-- the records after an append
abbrev pub records_on : List Record → Record → Result (Unit {0}) OutFault → List Record
records_on records r (Ok done) = records ++ r ∷ []
records_on records r (Err fault) = records

-- the records up to the gate are those of before, in order, and at Ok this one after them
abbrev pub AddsExactly : Option History → Option History → ℕ → ℕ → Record → Result (Unit {0}) OutFault → Type 0
AddsExactly None new end end' r result = new ≡ None
AddsExactly (Some old) new end end' r result =
    (h : History) × (new ≡ Some h) × (records_to h.now.reads end' ≡ records_on (records_to old.now.reads end) r result)

-- the records that the disk holds are those up to the gate, in order
abbrev pub HoldsTo : ℕ → ℕ → History → Type 0
HoldsTo faults end h = Holds faults (records_to h.now.reads end) h

-- whether no record counts before a gate
abbrev pub IsEmptyTo : ℕ → Bool → History → Type 0
IsEmptyTo end empty h = IsTrue empty ↔ (records_to h.now.reads end ≡ [])

-- ---- if no record was added

-- no record was added: the same records count in what reads give and, unless the disk is as it was, in each file that
-- a crash may leave now
pub record IsUnchanged (old new : History) : Type 0 where
  pub reads : counted new.now.reads ≡ counted old.now.reads
  pub crash : (new ≡ old) ⊎ LeavesRecords new (counted old.now.reads)

abbrev pub Unchanged : Option History → Option History → Type 0
Unchanged None new = new ≡ None
Unchanged (Some old) new = (h : History) × (new ≡ Some h) × IsUnchanged old h

-- the lists of so many members in what reads give, if the disk shows its bytes
abbrev pub lists_in : ℕ → Option History → Option Journals
lists_in members None = None
lists_in members (Some h) = Some (journals_of members (counted h.now.reads))
