-- The log of a process: the records that counted when it was opened, what it has of them later, and what is in each file that is left.
use Rattle.std.specs.Prelude.{◌≡◌, ◌⊎◌, ℕ, Bool, false, List, [], Option, Some, None}
use Rattle.outside.specs.Lists.{AddsRecord, Journals, KeepsJournals}
use Rattle.disk_log.specs.Disk.{History, IfTold}
use Rattle.disk_log.specs.Keeping.{LeavesRecords}
use Rattle.disk_log.specs.Records.{Record, counted, journals_of, records_to}
use Rattle.disk_log.specs.Running.{HoldsTo}
use Rattle.protocol_spec.specs.Chain.Words.{IsFront}
use Rattle.lives_law.specs.Files.{IsLeft}

-- the records that count in what reads give; none if the disk does not show its bytes
abbrev pub counted_in : Option History → List Record
counted_in None = []
counted_in (Some h) = counted h.now.reads

-- the records up to a gate
abbrev pub records_in : Option History → ℕ → List Record
records_in None end = []
records_in (Some h) end = records_to h.now.reads end

-- in each file that a crash may leave now, the records that count begin with these
abbrev pub LeavesFirst : List Record → History → Type 0
LeavesFirst first h = (file : List ℕ) → IsLeft h file → IsFront first (counted file)

-- ---- a log

-- a log whose appends met no fault: in each file that a crash may leave now, exactly the records up to the gate count
pub record IsWhole (told : Option History) (end : ℕ) (shut : Bool) : Type 0 where
  pub goes : shut ≡ false
  pub left : IfTold told (λ h. LeavesRecords h (records_to h.now.reads end))

-- a log that grew: the records up to its gate begin with those of before, and the disk holds them
pub record HasMore (told told' : Option History) (end end' faults : ℕ) : Type 0 where
  pub first : IsFront (records_in told end) (records_in told' end')
  pub holds : IfTold told' (HoldsTo faults end')

-- ---- what is left of it

-- `P` holds of the lists of each file that a crash may leave now
abbrev pub EachLeft : (Option Journals → Type 0) → ℕ → Option History → Type 0
EachLeft P width None = Unit {0}
EachLeft P width (Some h) = (file : List ℕ) → IsLeft h file → P (Some (journals_of width (counted file)))

-- observable lists grow by the record with these bytes, or stay if no record is due
abbrev pub AddsDue : Option Journals → Option Journals → ℕ → Option (List ℕ) → Type 0
AddsDue before now m None = KeepsJournals before now
AddsDue before now m (Some bytes) = AddsRecord before now m bytes

abbrev pub MayAddDue : Option Journals → Option Journals → ℕ → Option (List ℕ) → Type 0
MayAddDue before now m due = AddsDue before now m due ⊎ KeepsJournals before now

-- ---- a log that is only read

-- a log stands as it was: its disk's moments, its gate, its counts, and whether it is shut
pub record StandsAs (told : Option History) (end : ℕ) (counts : List ℕ) (shut : Bool) (told' : Option History) (end' : ℕ) (counts' : List ℕ) (shut' : Bool) : Type 0 where
  pub history : told ≡ told'
  pub gate : end ≡ end'
  pub sizes : counts ≡ counts'
  pub goes : shut ≡ shut'
