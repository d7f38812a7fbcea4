-- The lives of a member on one file, from the bytes of the file and the moments of its disk. Source: this profile.
use Rattle.std.specs.Prelude.{◌≡◌, ◌⊎◌, ◌<◌, ℕ, List, [], ◌∷◌, ◌++◌, length, Result, Ok, Err}
use Rattle.std.specs.List.{flat_map}
use Rattle.wire_bcs.specs.declared.fault.WireFault.{WireFault}
use Rattle.wire_bcs.specs.Items.{length_limit}
use Rattle.wire_bcs.specs.Place.{IsBytes}
use Rattle.outside.specs.Lists.{journal_of}
use Rattle.disk_log.specs.Disk.{History, IsImage, IsQuiet}
use Rattle.disk_log.specs.Records.{counted, journals_of}
use Rattle.chain_types.specs.declared.objects.Object.{Object}
use Rattle.journal_core.specs.declared.records.Record.{Record}
use Rattle.journal_core.specs.Records as journals
use Rattle.protocol_spec.specs.Chain.Words.{Each, IsFront}
use Rattle.protocol_spec.specs.Chain.Certificates.{Rules}
use Rattle.protocol_spec.specs.Member.Member.{Member}
use Rattle.protocol_spec.specs.Member.Calls.{Call, acks, called, closes, due, ends, holds, runs, sees, turns, votes}
use Rattle.world_spec.specs.Posts.{list_of}
use Rattle.world_spec.specs.Starts.{read_record, started}
use Rattle.world_spec.specs.SceneWorlds.{spelled}
use Rattle.lives_law.specs.Lives.{AreLives, Life, NothingIsTakenBack, last_records}

-- ---- the records in a file

abbrev pub record_then : Result Record WireFault → List Record → List Record
record_then (Ok x) records = x ∷ records
record_then (Err fault) records = []

-- the records that these bytes encode, up to the first that encode none
abbrev pub records_read : List (List ℕ) → List Record
records_read [] = []
records_read (bytes ∷ kept) = record_then (read_record bytes) (records_read kept)

-- what a file of so many lists has of a member, as bytes and as records
abbrev pub kept_of : ℕ → ℕ → List ℕ → List (List ℕ)
kept_of width m file = journal_of (journals_of width (counted file)) m

abbrev pub records_of : ℕ → ℕ → List ℕ → List Record
records_of width m file = records_read (kept_of width m file)

-- ---- the file that the next process finds

-- a file that may stand when a process is gone: what reads give if it ended or was killed, or any file that a crash of
-- the machine may leave then
abbrev pub IsLeft : History → List ℕ → Type 0
IsLeft h file = (file ≡ h.now.reads) ⊎ IsImage h.now file

-- the disk that the next process finds: the same as it stood, or one on which such a file is stable
abbrev pub Follows : History → History → Type 0
Follows h next = (next ≡ h) ⊎ (IsLeft h next.now.reads × IsQuiet next)

-- ---- what one process does to the file

-- the disk as the process found it and as it left it, and the calls of which it wrote an answer, whole or in part
pub record Run : Type 0 where
  pub first : History
  pub last : History
  pub calls : List Call

-- the records of these calls, from this state
abbrev pub dues : Rules → Member → List Call → List Record
dues r m [] = []
dues r m (call ∷ calls) = list_of (due r m call) ++ dues r (called r m call) calls

-- a record is read back from its encoding
abbrev pub IsReadBack : Record → Type 0
IsReadBack x = read_record (journals.journal_record.spell x) ≡ Ok x

-- what the call is handed are bytes, and an entry is not too long to be kept
abbrev pub IsReadable : Call → Type 0
IsReadable (votes bytes) = IsBytes bytes
IsReadable (holds bytes) = IsBytes bytes
IsReadable (sees number bytes) = length bytes < length_limit
IsReadable runs = Unit {0}
IsReadable closes = Unit {0}
IsReadable ends = Unit {0}
IsReadable turns = Unit {0}
IsReadable (acks tx) = Unit {0}

module _ (r : Rules) (opening : List Object) (width m : ℕ) where
  -- a process in which the member started: from what the file has of it; in each file that may be left, these records
  -- stand, then those of the calls, and perhaps more
  pub record IsLifeOn (run : Run) : Type 0 where
    pub member : Member
    pub starts : started r opening (kept_of width m run.first.now.reads) ≡ Ok member
    pub leaves : (file : List ℕ) → IsLeft run.last file → IsFront (kept_of width m run.first.now.reads ++ spelled (dues r member run.calls)) (kept_of width m file)
    pub readable : Each IsReadable run.calls

  -- a process that answered no call: in each file that may be left stand the records of a file that was left before
  -- it, and perhaps more
  pub record IsIdleOn (run : Run) : Type 0 where
    pub calls : run.calls ≡ []
    pub leaves : (file : List ℕ) → IsLeft run.last file → (old : List ℕ) × IsLeft run.first old × IsFront (kept_of width m old) (kept_of width m file)

  -- processes one after the other on one disk, each from what the one before left, and a file that the last may leave
  abbrev pub AreRunsOn : History → List Run → List ℕ → Type 0
  AreRunsOn h [] file = IsLeft h file
  AreRunsOn h (run ∷ after) file = Follows h run.first × (IsLifeOn run ⊎ IsIdleOn run) × AreRunsOn run.last after file

  -- the calls that these processes answered are the calls of lives; the first life finds the records `first`, and
  -- perhaps more
  pub record AreLivesOf (first : List Record) (ran : List Run) (file : List ℕ) : Type 0 where
    pub start : List Record
    pub lives : List Life
    pub from : IsFront first start
    pub are : AreLives r opening start lives
    pub calls : flat_map (λ (life : Life). life.calls) lives ≡ flat_map (λ (run : Run). run.calls) ran
    pub last : last_records start lives ≡ records_of width m file

-- the processes of a member on one file have lives, so nothing that they answered is taken back
abbrev pub FilesLive : Type 0
FilesLive = (r : Rules) (opening : List Object) (width m : ℕ) (h : History) (ran : List Run) (file : List ℕ) → IsQuiet h → AreRunsOn r opening width m h ran file
    → (l : AreLivesOf r opening width m (records_of width m h.now.reads) ran file) × NothingIsTakenBack r opening l.lives (records_of width m file)
