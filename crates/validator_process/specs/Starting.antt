-- What the steps of a start answer, against the definition; running out of memory and a fault of the journal say nothing here.
use Rattle.std.specs.Prelude.{◌≡◌, ◌⊎◌, ◌==◌, ℕ, true, List, [], length, Option, Result, Ok, Err}
use Rattle.std.specs.Io.KnownBytes.{Appends}
use Rattle.outside.specs.Lists.{Journals, KeepsJournals}
use Rattle.outside.specs.Streams.{AppendsFront}
use Rattle.schedule_text.specs.declared.words.Schedule.{Schedule}
use Rattle.schedule_text.specs.Schedule.{Refused}
use Rattle.world_spec.specs.Scene.{Scene}
use Rattle.world_spec.specs.Seats.{Seated}
use Rattle.world_spec.specs.Setting.{Trust}
use Rattle.world_core.specs.Replies.{Accepting}
use Rattle.world_core.specs.SeatRestarts.{IsJournal}
use Rattle.process_lines.specs.declared.starts.StartLine.{StartLine}
use Rattle.process_lines.specs.Texts.{start_text}
use Rattle.validator_process.specs.declared.reading.Unstarted.{Unstarted}
use Rattle.validator_process.specs.declared.reading.Unstarted.TheVariants as unstarted
use Rattle.validator_process.specs.declared.stop.Stop.{Stop}
use Rattle.validator_process.specs.declared.stop.Stop.TheVariants as stop
use Rattle.validator_process.specs.Genesis.{ready_line, scene_of, started_in}
use Rattle.validator_process.specs.Serving.{ServesAll, ServesSome, around, ended}

-- a stop that is not a fault of source or sink
abbrev pub IsInside : Stop → Type 0
IsInside stop.ReadFault = ⊥
IsInside stop.WriteFault = ⊥
IsInside stop.KeepFault = Unit {0}
IsInside stop.OutOfMemory = Unit {0}

-- a schedule without events, or the line that says why there is none, whichever the member is
abbrev pub ReadsAs : Result Schedule Refused → Result Schedule Unstarted → Type 0
ReadsAs said (Ok s) = (said ≡ Ok s) × ((length s.events == 0) ≡ true)
ReadsAs said (Err (unstarted.Refused line)) = (trust : Trust) (m : ℕ) → scene_of trust m said ≡ Err line
ReadsAs said (Err (unstarted.Stopped why)) = why ≡ stop.OutOfMemory

abbrev pub OpensAs : Result Scene StartLine → Result Scene Unstarted → Type 0
OpensAs said (Ok scene) = said ≡ Ok scene
OpensAs said (Err (unstarted.Refused line)) = said ≡ Err line
OpensAs said (Err (unstarted.Stopped why)) = why ≡ stop.OutOfMemory

-- ---- from the records of a keeper

-- the answer of a start: the member as it starts from its records, or the line that names a bad one; a stop says
-- nothing of them
abbrev pub StartsAs : Accepting → Scene → ℕ → Option Journals → Result Seated Unstarted → Type 0
StartsAs accepts scene m told (Ok seat) = (records : List (List ℕ)) × IsJournal told m records × (started_in accepts scene m records ≡ Ok seat)
StartsAs accepts scene m told (Err (unstarted.Refused line)) = (records : List (List ℕ)) × IsJournal told m records × (started_in accepts scene m records ≡ Err line)
StartsAs accepts scene m told (Err (unstarted.Stopped why)) = IsInside why

-- ---- a member that started writes its `ready` line, and serves

abbrev pub start_bytes : StartLine → List ℕ
start_bytes line = ended (start_text line)

-- the member wrote its `ready` line, and served to the end of the source
pub record LivesWhole (accepts : Accepting) (seat : Seated) (left left' held held' : Option (List ℕ)) (kept kept' : Option Journals) : Type 0 where
  pub said : Option (List ℕ)
  pub pending : List ℕ
  pub last : Seated
  pub ready : Appends held said (start_bytes (ready_line seat))
  pub serves : ServesAll accepts (around [] left said kept seat) (around pending left' held' kept' last)

-- the member wrote its `ready` line, and served some lines until a stop
pub record LivesSome (accepts : Accepting) (why : Stop) (seat : Seated) (left left' held held' : Option (List ℕ)) (kept kept' : Option Journals) : Type 0 where
  pub said : Option (List ℕ)
  pub pending : List ℕ
  pub last : Seated
  pub ready : Appends held said (start_bytes (ready_line seat))
  pub serves : ServesSome accepts why (around [] left said kept seat) (around pending left' held' kept' last)

-- a stop that the writing of a line may meet
abbrev pub IsOfLine : Stop → Type 0
IsOfLine stop.ReadFault = ⊥
IsOfLine stop.WriteFault = Unit {0}
IsOfLine stop.KeepFault = ⊥
IsOfLine stop.OutOfMemory = Unit {0}

-- a prefix of the process's first line is written, and nothing is read or kept
pub record SaysFront (why : Stop) (line : StartLine) (left left' held held' : Option (List ℕ)) (kept kept' : Option Journals) : Type 0 where
  pub by : IsOfLine why
  pub unread : left' ≡ left
  pub writes : AppendsFront held held' (start_bytes line)
  pub keeps : KeepsJournals kept kept'

-- how far a member that started came when this stop ended the process: into its first line, or beyond it
abbrev pub LivesCut : Accepting → Stop → Seated → Option (List ℕ) → Option (List ℕ) → Option (List ℕ) → Option (List ℕ) → Option Journals → Option Journals → Type 0
LivesCut accepts why seat left left' held held' kept kept' =
    SaysFront why (ready_line seat) left left' held held' kept kept' ⊎ LivesSome accepts why seat left left' held held' kept kept'
