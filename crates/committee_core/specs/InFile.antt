-- What the program promises if the records are kept in a journal file.
use Rattle.std.specs.Prelude.{◌≡◌, ◌⊎◌, ℕ, ◌≤◌, true, false, List, [], ◌∷◌, ◌++◌, Option, None, Some, codes, decimal}
use Rattle.std.specs.Io.KnownBytes.{Appends, Keeps}
use Rattle.outside.specs.Causes.{Rose}
use Rattle.outside.specs.Lists.{Journals}
use Rattle.disk_log.specs.Disk.{History, IfTold, IsImage}
use Rattle.disk_log.specs.Records.{Record, bad_member, counted, journals_of, records_to}
use Rattle.disk_log.specs.Running.{Unchanged, lists_in}
use Rattle.disk_log.specs.declared.refusals.OpenRefusal.{OpenRefusal}
use Rattle.disk_log.specs.declared.refusals.OpenRefusal.TheVariants as open_refusal
use Rattle.command_words.specs.declared.words.Command.{Command}
use Rattle.committee_core.specs.Endings.{Ends}
use Rattle.committee_core.specs.Outside.{Outside}
use Rattle.outside.specs.Streams.{AppendsFront}
use Rattle.command_words.specs.Words.{command_in, names_replay}

-- ---- the lines that refuse a journal

-- `journal: bad member at A`
abbrev pub bad_member_text : ℕ → List ℕ
bad_member_text at = codes "journal: bad member at " ++ decimal at ++ 10 ∷ []

-- `journal: not empty`
abbrev pub not_empty_text : List ℕ
not_empty_text = codes "journal: not empty" ++ 10 ∷ []

-- the most members of a committee
abbrev pub most_members : ℕ
most_members = 64

-- every record that counts is of one of these members
abbrev pub AreOfMembers : Option History → Type 0
AreOfMembers told = IfTold told (λ h. bad_member most_members 0 (counted h.now.reads) ≡ None)

-- why a journal is refused, with the line that says so: the member of some record that counts is not one of 64, and the
-- line names the gate of the first such record; or a record counts, and the words do not replay
pub data IsRefusedBy (words : List (List ℕ)) (told : Option History) : List ℕ → Type 0 where
  bad_member_at : (at : ℕ) → IfTold told (λ h. bad_member most_members 0 (counted h.now.reads) ≡ Some at) → IsRefusedBy words told (bad_member_text at)
  is_not_empty : names_replay words ≡ false → AreOfMembers told → IfTold told (λ h. counted h.now.reads ≡ [] → ⊥) → IsRefusedBy words told not_empty_text

-- `P` holds of the place of the gate that a refused opening names; false of the refusals that name none
abbrev pub IsBadMember : OpenRefusal → (ℕ → Type 0) → Type 0
IsBadMember (open_refusal.BadMember at) P = P at
IsBadMember open_refusal.DiskFault P = ⊥
IsBadMember open_refusal.OutOfMemory P = ⊥

-- ---- what a call leaves in the file

-- the records that count in a file are these, or, only if the disk's count of faults rose since the log was opened, these and one
-- more; each is of a member below 64
pub record IsOfCall (opened faults : ℕ) (records : List Record) (file : List ℕ) : Type 0 where
  pub counts : (counted file ≡ records) ⊎ (Rose opened faults × (more : Record) × (counted file ≡ records ++ more ∷ []))
  pub members : bad_member most_members 0 (counted file) ≡ None

-- `IsOfCall` holds of each file that a crash may leave now
abbrev pub LeavesOfCall : ℕ → ℕ → List Record → History → Type 0
LeavesOfCall opened faults records h = (image : List ℕ) → IsImage h.now image → IsOfCall opened faults records image

-- the disk holds the lists `lists`, both in what it reads now and in each file that a crash may leave; a disk that
-- does not show its bytes has no observable lists
abbrev pub HoldsOfCall : ℕ → ℕ → Option History → Option Journals → Type 0
HoldsOfCall opened faults None lists = lists ≡ None
HoldsOfCall opened faults (Some h) lists =
    (records : List Record) × (lists ≡ Some (journals_of most_members records)) × IsOfCall opened faults records h.now.reads × LeavesOfCall opened faults records h

-- ---- over an open log, whose gate stands at `end`

-- the records before the gate are refused, since the words do not replay
pub record IsFull (words : List (List ℕ)) (told told' : Option History) (end : ℕ) (before now : Outside) (status : ℕ) : Type 0 where
  pub known : (status ≡ 5) ⊎ (status ≡ 7) ⊎ (status ≡ 8)
  pub unread : (now.left ≡ before.left) × (now.read_faults ≡ before.read_faults)
  pub uncounted : now.keep_faults ≡ before.keep_faults
  pub disk : told' ≡ told
  pub other : names_replay words ≡ false
  pub some : IfTold told (λ h. records_to h.now.reads end ≡ [] → ⊥)
  pub refused : status ≡ 8 → Appends before.held now.held not_empty_text
  pub write_fault : status ≡ 5 → Rose before.write_faults now.write_faults
  pub cut : (status ≡ 5) ⊎ (status ≡ 7) → AppendsFront before.held now.held not_empty_text

-- a crash now would leave a file whose lists are ones with which the command may have ended in this way, whichever
-- file it is
abbrev pub LeavesEndings : Option Command → Option History → Outside → Outside → ℕ → Type 0
LeavesEndings command None before now status = Unit {0}
LeavesEndings command (Some h) before now status = (image : List ℕ) → IsImage h.now image → Ends command before (record now { kept = Some (journals_of most_members (counted image)) }) status

-- the command ended as over any keeper with these lists, and the disk holds them
pub record EndsOver (command : Option Command) (told' : Option History) (before now : Outside) (status : ℕ) : Type 0 where
  pub lists : Option Journals
  pub ends : Ends command before (record now { kept = lists }) status
  pub holds : HoldsOfCall before.keep_faults now.keep_faults told' lists
  pub each : LeavesEndings command told' before now status

-- the words may run over the records before the gate: they are a `replay`, or there are no such records
abbrev pub MayRun : List (List ℕ) → Option History → ℕ → Type 0
MayRun words told end = (names_replay words ≡ true) ⊎ IfTold told (λ h. records_to h.now.reads end ≡ [])

-- the records before the gate are refused, or the command ended over the log
abbrev pub EndsOverLog : List (List ℕ) → Option History → Option History → ℕ → Outside → Outside → ℕ → Type 0
EndsOverLog words told told' end before now status =
    IsFull words told told' end before now status ⊎ (MayRun words told end × EndsOver (command_in words) told' before now status)

-- ---- the whole call

-- the log was not opened, or the journal is refused: the records that count are those of before, and nothing is written but the line
-- that refuses the journal
pub record IsUncalled (words : List (List ℕ)) (told told' : Option History) (before now : Outside) (status : ℕ) : Type 0 where
  pub known : (status ≡ 5) ⊎ (status ≡ 6) ⊎ (status ≡ 7) ⊎ (status ≡ 8)
  pub unread : (now.left ≡ before.left) × (now.read_faults ≡ before.read_faults)
  pub stays : Unchanged told told'
  pub refused : status ≡ 8 → (line : List ℕ) × IsRefusedBy words told line × Appends before.held now.held line
  pub write_fault : status ≡ 5 → Rose before.write_faults now.write_faults
  pub disk_fault : status ≡ 6 → Rose before.keep_faults now.keep_faults × Keeps before.held now.held
  pub cut : (status ≡ 5) ⊎ (status ≡ 7) → Keeps before.held now.held ⊎ ((line : List ℕ) × IsRefusedBy words told line × AppendsFront before.held now.held line)

-- the command ended over the log as over any keeper, whose lists are those of the records that count: those before are what
-- the disk gave, and those after it are what the disk holds. Its count of faults is the disk's, since the log was opened.
pub record IsCalled (words : List (List ℕ)) (told told' : Option History) (before now : Outside) (status : ℕ) : Type 0 where
  pub opened : ℕ
  pub lists : Option Journals
  pub later : before.keep_faults ≤ opened
  pub members : AreOfMembers told
  pub fits : (names_replay words ≡ true) ⊎ IfTold told (λ h. counted h.now.reads ≡ [])
  pub ends : Ends (command_in words) (record before { keep_faults = opened }) (record now { kept = lists }) status
  pub holds : HoldsOfCall opened now.keep_faults told' lists
  pub each : LeavesEndings (command_in words) told' (record before { keep_faults = opened }) now status

abbrev pub EndsInFile : List (List ℕ) → Option History → Option History → Outside → Outside → ℕ → Type 0
EndsInFile words told told' before now status = IsUncalled words told told' before now status ⊎ IsCalled words told told' before now status

-- the disk's lists as those of a keeper of 64 members, if it shows its bytes
abbrev pub kept_in : Option History → Option Journals
kept_in told = lists_in most_members told
