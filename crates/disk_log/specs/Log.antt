-- The log over a disk: its index, how a record is added at the gate, and how records are read. Source: this profile.
use Rattle.std.specs.Prelude.{◌≡◌, ◌≢◌, ℕ, ◌+◌, ◌<◌, ◌≤◌, Bool, true, false, List, [], ◌∷◌, ◌++◌, ◌⊎◌, All, length, map, take, drop, slice_index, slice_set, Option, Some, None, Result, MatchResult, OnOk}
use Rattle.std.specs.List.{slice_index_or}
use Rattle.outside.specs.Causes.{Rose}
use Rattle.outside.specs.declared.faults.OutFault.{OutFault}
use Rattle.outside.specs.declared.faults.OutFault.TheVariants as fault
use Rattle.wire_bcs.specs.Little.{value_of}
use Rattle.disk_log.specs.declared.moment.Span.{Span}
use Rattle.disk_log.specs.declared.walk.Head.{Head}
use Rattle.disk_log.specs.declared.refusals.OpenRefusal.{OpenRefusal}
use Rattle.disk_log.specs.declared.refusals.OpenRefusal.TheVariants as refused
use Rattle.disk_log.specs.Disk.{History, IsQuiet, LeavesOnly, IfTold}
use Rattle.disk_log.specs.Records.{Record, Whole, counted, records_to, journals_of, head_of, count_in, bad_member}

-- the index of a log: for each member the ranges of its records' bytes, in order
abbrev pub Rows : Type 0
Rows = List (List Span)

-- the bytes of a range
abbrev pub bytes_at : List ℕ → Span → List ℕ
bytes_at file span = take span.count (drop span.at file)

-- each range ends before a place
abbrev pub IsInside : ℕ → Rows → Type 0
IsInside end rows = All (All (λ span. span.at + span.count ≤ end)) rows

-- the ranges of a member
abbrev pub row_of : Rows → ℕ → List Span
row_of rows member = slice_index_or rows member []

-- the index with one more range for this member
abbrev pub with_span : Rows → ℕ → Span → Rows
with_span rows member span = slice_set rows member (row_of rows member ++ span ∷ [])

-- reading the ranges of the index in the file gives each member's list of these records
abbrev pub IsListed : List ℕ → Rows → List Record → Type 0
IsListed front rows records = map (map (bytes_at front)) rows ≡ journals_of (length rows) records

-- ---- the file at a log's gate

-- what counts in the file is these records, or these and one more
abbrev pub HasOldOrNew : List Record → Record → List ℕ → Type 0
HasOldOrNew records record' file = (counted file ≡ records) ⊎ (counted file ≡ records ++ record' ∷ [])

-- up to the gate stand whole records
pub record IsWhole (h : History) (end : ℕ) : Type 0 where
  pub whole : Whole (take end h.now.reads) (records_to h.now.reads end)
  pub inside : end < length h.now.reads

-- the whole file is stable, and the gate at `end` is not open: a record can be put after it
pub record IsReady (h : History) (end : ℕ) : Type 0 where
  pub quiet : IsQuiet h
  pub closed : slice_index h.now.reads end ≢ 1

-- ---- a record after the gate

-- the record was added: it stands after its open gate, and the next gate is ready
pub record IsAdded (old new : History) (end member : ℕ) (bytes : List ℕ) : Type 0 where
  pub front : take (end + 9 + length bytes) new.now.reads ≡ take end old.now.reads ++ 1 ∷ (head_of member bytes ++ bytes)
  pub inside : end + 9 + length bytes < length new.now.reads
  pub ready : IsReady new (end + 9 + length bytes)

-- how an append that failed leaves the gate: ready if memory was refused; after a fault of the disk nothing is known
-- of it
abbrev pub after_fault : History → ℕ → OutFault → Type 0
after_fault new end fault.Failed = Unit {0}
after_fault new end fault.OutOfMemory = IsReady new end

-- at each moment of the call a crash leaves a file in which the records of before count, with this one or without it
pub record IsRecorded (old new : History) (end member : ℕ) (bytes : List ℕ) (result : Result (Unit {0}) OutFault) : Type 0 where
  pub any_moment : LeavesOnly (HasOldOrNew (records_to old.now.reads end) (record { member = member; bytes = bytes })) old new
  pub front : take end new.now.reads ≡ take end old.now.reads
  pub inside : end < length new.now.reads
  pub ended : MatchResult result (λ _. IsAdded old new end member bytes) (after_fault new end)

-- `IsRecorded` on a disk that shows its moments; one that does not stays so
abbrev pub Recorded : Option History → Option History → ℕ → ℕ → List ℕ → Result (Unit {0}) OutFault → Type 0
Recorded None new end member bytes result = new ≡ None
Recorded (Some old) new end member bytes result = (h : History) × (new ≡ Some h) × IsRecorded old h end member bytes result

-- whole records stand up to the gate, which is ready
pub record IsAtGate (end : ℕ) (h : History) : Type 0 where
  pub whole : IsWhole h end
  pub ready : IsReady h end

-- ---- opening

-- the next record in a file from a gate on: it counts, and its length and member are these
pub record IsNext (file : List ℕ) (member count : ℕ) : Type 0 where
  pub is_open : slice_index file 0 ≡ 1
  pub counts : count_in (drop 1 file) ≡ count
  pub names : value_of (take 4 (drop 4 (drop 1 file))) ≡ member
  pub long : 9 + count < length file

-- the next record, if it counts
abbrev pub NextIs : List ℕ → Option Head → Type 0
NextIs file None = counted file ≡ []
NextIs file (Some head) = IsNext file head.member head.count

-- what the nine bytes at a gate say of the next record, if `left` bytes of the file are left from the gate on
abbrev pub HeadSays : List ℕ → ℕ → Option Head → Type 0
HeadSays bytes left None = slice_index bytes 0 ≡ 1 → left ≤ 9 + count_in (drop 1 bytes)
HeadSays bytes left (Some head) =
    (slice_index bytes 0 ≡ 1) × (count_in (drop 1 bytes) ≡ head.count) × (value_of (take 4 (drop 4 (drop 1 bytes))) ≡ head.member) × (9 + head.count < left)

-- up to this gate all records count, their members are known, and they are listed
pub record IsWalked (at : ℕ) (rows : Rows) (reads : List ℕ) : Type 0 where
  pub whole : Whole (take at reads) (records_to reads at)
  pub counts : counted reads ≡ records_to reads at ++ counted (drop at reads)
  pub gate : (at ≡ 0) ⊎ (at < length reads)
  pub lists : IsListed (take at reads) rows (records_to reads at)
  pub known : bad_member (length rows) 0 (counted reads) ≡ bad_member (length rows) at (counted (drop at reads))

-- so far, and no record counts after it
pub record IsWalkedThrough (at : ℕ) (rows : Rows) (reads : List ℕ) : Type 0 where
  pub walked : IsWalked at rows reads
  pub through : counted (drop at reads) ≡ []

-- why records could not be read: after a fault the count rose, and a bad member is the first of the observable bytes
pub record WalkCause (before now : ℕ) (told : Option History) (members : ℕ) (refusal : OpenRefusal) : Type 0 where
  pub later : before ≤ now
  pub fault : refusal ≡ refused.DiskFault → Rose before now
  pub bad : (at : ℕ) → refusal ≡ refused.BadMember at → IfTold told (λ h. bad_member members 0 (counted h.now.reads) ≡ Some at)

-- ---- the gate after the records

-- closing the gate after the last record changes no record that counts, at any moment; at Ok the gate is ready
pub record IsMended (old new : History) (end : ℕ) (result : Result (Unit {0}) OutFault) : Type 0 where
  pub any_moment : LeavesOnly (λ c. counted c ≡ counted old.now.reads) old new
  pub front : take end new.now.reads ≡ take end old.now.reads
  pub ready : OnOk result ((end < length new.now.reads) × IsReady new end)

abbrev pub Mended : Option History → Option History → ℕ → Result (Unit {0}) OutFault → Type 0
Mended None new end result = new ≡ None
Mended (Some old) new end result = (h : History) × (new ≡ Some h) × IsMended old h end result

-- a quiet file, whose records all stand before a gate
pub record IsReadTo (end : ℕ) (h : History) : Type 0 where
  pub quiet : IsQuiet h
  pub whole : Whole (take end h.now.reads) (records_to h.now.reads end)
  pub counts : counted h.now.reads ≡ records_to h.now.reads end
  pub gate : (end ≡ 0) ⊎ (end < length h.now.reads)
  pub through : counted (drop end h.now.reads) ≡ []

-- whether a gate is there and not open
abbrev pub ClosedIs : ℕ → List ℕ → Bool → Type 0
ClosedIs at file true = (at < length file) × (slice_index file at ≢ 1)
ClosedIs at file false = (length file ≤ at) ⊎ (slice_index file at ≡ 1)
