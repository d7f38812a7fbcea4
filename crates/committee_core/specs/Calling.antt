-- A log as the keeper of one call of the program, with the record whose append met a fault of the disk.
use Rattle.std.specs.Prelude.{◌≡◌, ◌⊎◌, ◌≤◌, ◌<◌, ◌+◌, ◌==◌, ℕ, List, [], ◌∷◌, ◌++◌, length, slice_index, Option, None, Some, Result, Ok, Err, if◌then◌else◌}
use Rattle.outside.specs.Causes.{Rose}
use Rattle.outside.specs.Lists.{Journals, journal_of, with_record}
use Rattle.disk_log.specs.Disk.{History, IfTold, IsImage}
use Rattle.disk_log.specs.Keeping.{LogState, told_lists}
use Rattle.disk_log.specs.Records.{Record, bad_member, counted, records_to}
use Rattle.disk_log.specs.declared.refusals.LogRefusal.{LogRefusal}
use Rattle.disk_log.specs.declared.refusals.LogRefusal.TheVariants as log
use Rattle.committee_core.specs.InFile.{most_members}
use Rattle.committee_core.specs.declared.call_log.Unfinished.{Unfinished}

-- a log, and the record whose append met a fault of the disk
pub record CallState (D : Type 0) : Type 0 where
  pub log : LogState D
  pub unfinished : Option Unfinished

-- ---- the lists of the acknowledged records, with the unfinished one

abbrev pub record_of : Unfinished → Record
record_of u = record { member = u.member; bytes = u.bytes }

abbrev pub with_unfinished : Journals → Option Unfinished → Journals
with_unfinished lists None = lists
with_unfinished lists (Some u) = with_record lists u.member u.bytes

abbrev pub call_lists : Option Journals → Option Unfinished → Option Journals
call_lists None u = None
call_lists (Some lists) u = Some (with_unfinished lists u)

-- how many records a member has with the unfinished one, if the log counts `kept` of it
abbrev pub call_count : Option Unfinished → ℕ → ℕ → ℕ
call_count None m kept = kept
call_count (Some u) m kept = if u.member == m then u.count else kept

-- the unfinished record after an append with this answer: the record itself if the disk failed, since the file may
-- hold it, else none
abbrev pub unfinished_behind : Unfinished → Result (Unit {0}) LogRefusal → Option Unfinished
unfinished_behind u (Ok done) = None
unfinished_behind u (Err log.Shut) = None
unfinished_behind u (Err log.Full) = None
unfinished_behind u (Err log.OutOfMemory) = None
unfinished_behind u (Err log.DiskFault) = Some u

-- ---- the invariant of a call's log

-- the records that count in a file are these, or these and the unfinished one; each is of a member below 64
pub record IsOfLog (records : List Record) (u : Option Unfinished) (file : List ℕ) : Type 0 where
  pub counts : (counted file ≡ records) ⊎ ((more : Unfinished) × (u ≡ Some more) × (counted file ≡ records ++ record_of more ∷ []))
  pub members : bad_member most_members 0 (counted file) ≡ None

-- `IsOfLog` holds of each file that a crash may leave now
abbrev pub LeavesOfLog : List Record → Option Unfinished → History → Type 0
LeavesOfLog records u h = (image : List ℕ) → IsImage h.now image → IsOfLog records u image

-- an unfinished record is the next one of its member: its count is one more than the log's
abbrev pub IsNextOf : List ℕ → Option Unfinished → Type 0
IsNextOf counts None = Unit {0}
IsNextOf counts (Some u) = (u.member < length counts) × (u.count ≡ slice_index counts u.member + 1)

-- there is an unfinished record only if the disk's count of faults rose since the log was opened
abbrev pub HasMetFault : ℕ → ℕ → Option Unfinished → Type 0
HasMetFault opened faults None = Unit {0}
HasMetFault opened faults (Some u) = Rose opened faults

-- each observable list is at least as long as at the beginning of the call
abbrev pub HasGrown : Option Journals → Option Journals → Type 0
HasGrown None now = now ≡ None
HasGrown (Some begun) None = Unit {0}
HasGrown (Some begun) (Some now) = (m : ℕ) → length (journal_of begun m) ≤ length (journal_of now m)

-- the invariant of the log of a call that began with the lists `begun`: any file that a crash may leave has the
-- records up to the gate, with the unfinished one or without it; and counts and faults only grow
pub record IsCalling (opened : ℕ) (begun : Option Journals) (told : Option History) (faults end : ℕ) (counts : List ℕ) (u : Option Unfinished) : Type 0 where
  pub later : opened ≤ faults
  pub as_many : length counts ≡ most_members
  pub known : IfTold told (λ h. bad_member most_members 0 (records_to h.now.reads end) ≡ None)
  pub left : IfTold told (λ h. LeavesOfLog (records_to h.now.reads end) u h)
  pub next : IsNextOf counts u
  pub met : HasMetFault opened faults u
  pub grown : HasGrown begun (told_lists told end (length counts))
