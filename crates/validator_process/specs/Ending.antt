-- How a process ends: its status, why it stopped, and the line that says why no member starts. Source: this profile.
use Rattle.std.specs.Prelude.{◌≡◌, ◌⊎◌, ℕ, ◌<◌, ◌≤◌, List, [], ◌∷◌, length, Option, Some, None, Ok, Err}
use Rattle.std.specs.Io.KnownBytes.{Appends}
use Rattle.outside.specs.Causes.{Rose}
use Rattle.outside.specs.Lists.{AddsRecord, Journals, KeepsJournals}
use Rattle.disk_log.specs.Disk.{History, IfTold}
use Rattle.disk_log.specs.Keeping.{LeavesRecords}
use Rattle.disk_log.specs.Records.{Record, bad_member, counted, journals_of}
use Rattle.disk_log.specs.Running.{HoldsLists, Unchanged, lists_in}
use Rattle.world_spec.specs.Keyed.{keyed, program_secret}
use Rattle.world_spec.specs.Setting.{Trust}
use Rattle.outside.specs.Streams.{AppendsFront, ReadsText}
use Rattle.schedule_text.specs.Schedule.{longest_text}
use Rattle.world_spec.specs.Scene.{Scene}
use Rattle.world_spec.specs.Seats.{Seated}
use Rattle.world_core.specs.Replies.{Accepting}
use Rattle.process_lines.specs.declared.starts.StartLine.{StartLine}
use Rattle.process_lines.specs.declared.starts.StartLine.TheVariants as start
use Rattle.validator_process.specs.declared.identity.Head.{Head}
use Rattle.validator_process.specs.declared.identity.Head.TheVariants as head
use Rattle.validator_process.specs.declared.journal.Unopened.{Unopened}
use Rattle.validator_process.specs.declared.journal.Unopened.TheVariants as unopened
use Rattle.validator_process.specs.declared.reading.Unstarted.{Unstarted}
use Rattle.validator_process.specs.declared.reading.Unstarted.TheVariants as unstarted
use Rattle.validator_process.specs.declared.stop.Stop.{Stop}
use Rattle.validator_process.specs.declared.stop.Stop.TheVariants as stop
use Rattle.validator_process.specs.declared.words.Task.{Task}
use Rattle.validator_process.specs.declared.words.Task.TheVariants as task
use Rattle.validator_process.specs.Genesis.{genesis_of, line_status}
use Rattle.validator_process.specs.Growing.{EachLeft, LeavesFirst, counted_in}
use Rattle.validator_process.specs.Identity.{genesis_digest, head_of_file, identity_bytes, identity_record}
use Rattle.validator_process.specs.Starting.{IsInside, LivesCut, LivesWhole, StartsAs, start_bytes}
use Rattle.validator_process.specs.Stops.{status_of}

-- ---- faults

-- a stop by a fault comes only if the count of its stream or of the journal rose
abbrev pub HasCause : Stop → ℕ → ℕ → ℕ → ℕ → ℕ → ℕ → Type 0
HasCause stop.ReadFault r r' w w' k k' = Rose r r'
HasCause stop.WriteFault r r' w w' k k' = Rose w w'
HasCause stop.KeepFault r r' w w' k k' = Rose k k'
HasCause stop.OutOfMemory r r' w w' k k' = Unit {0}

-- a stop that the writing of a line may cause: a write fault, whose count rose, or running out of memory
abbrev pub IsOfWrite : Stop → ℕ → ℕ → Type 0
IsOfWrite stop.ReadFault w w' = ⊥
IsOfWrite stop.WriteFault w w' = Rose w w'
IsOfWrite stop.KeepFault w w' = ⊥
IsOfWrite stop.OutOfMemory w w' = Unit {0}

-- ---- a line that ends a process

-- the line was written whole, and its status ends the process
pub record IsSaidWhole (line : StartLine) (held held' : Option (List ℕ)) (status : ℕ) : Type 0 where
  pub ends : status ≡ line_status line
  pub writes : Appends held held' (start_bytes line)

-- only a prefix of the line was written, and the stop's status ends the process
pub record IsSaidCut (line : StartLine) (held held' : Option (List ℕ)) (w w' status : ℕ) : Type 0 where
  pub why : Stop
  pub ends : status ≡ status_of why
  pub cause : IsOfWrite why w w'
  pub writes : AppendsFront held held' (start_bytes line)

abbrev pub IsSaid : StartLine → Option (List ℕ) → Option (List ℕ) → ℕ → ℕ → ℕ → Type 0
IsSaid line held held' w w' status = IsSaidWhole line held held' status ⊎ IsSaidCut line held held' w w' status

-- the end of a process whose member does not start: a line says why, or a stop ends it and nothing is written
abbrev pub SaysUnstarted : Unstarted → Option (List ℕ) → Option (List ℕ) → ℕ → ℕ → ℕ → Type 0
SaysUnstarted (unstarted.Refused line) held held' w w' status = IsSaid line held held' w w' status
SaysUnstarted (unstarted.Stopped why) held held' w w' status = (status ≡ status_of why) × (held' ≡ held)

abbrev pub SaysUnopened : Unopened → Option (List ℕ) → Option (List ℕ) → ℕ → ℕ → ℕ → Type 0
SaysUnopened unopened.BadList held held' w w' status = IsSaid start.NotMade held held' w w' status
SaysUnopened (unopened.Stopped why) held held' w w' status = (status ≡ status_of why) × (held' ≡ held)

-- ---- a life over a keeper, from the observable lists at its start

-- the member started, said so, and served to the end of the source
pub record LivedWhole (accepts : Accepting) (scene : Scene) (m : ℕ) (left left' held held' : Option (List ℕ)) (kept kept' : Option Journals) (status : ℕ) : Type 0 where
  pub seat : Seated
  pub mid : Option Journals
  pub starts : StartsAs accepts scene m kept (Ok seat)
  pub same : KeepsJournals kept mid
  pub lives : LivesWhole accepts seat left left' held held' mid kept'
  pub ends : status ≡ 0

-- the member started, and a stop cut it off: the sink at a line that it was handed, the journal at a line whose record
-- is due, or another stop
pub record LivedCut (accepts : Accepting) (scene : Scene) (m : ℕ) (left left' held held' : Option (List ℕ)) (kept kept' : Option Journals) (r r' w w' k k' status : ℕ) : Type 0 where
  pub seat : Seated
  pub mid : Option Journals
  pub why : Stop
  pub starts : StartsAs accepts scene m kept (Ok seat)
  pub same : KeepsJournals kept mid
  pub lives : LivesCut accepts why seat left left' held held' mid kept'
  pub ends : status ≡ status_of why
  pub cause : HasCause why r r' w w' k k'

-- the member did not start: a record is bad, and a line says so
pub record IsRefusedStart (accepts : Accepting) (scene : Scene) (m : ℕ) (left left' held held' : Option (List ℕ)) (kept kept' : Option Journals) (w w' status : ℕ) : Type 0 where
  pub line : StartLine
  pub starts : StartsAs accepts scene m kept (Err (unstarted.Refused line))
  pub unread : left' ≡ left
  pub said : IsSaid line held held' w w' status
  pub same : KeepsJournals kept kept'

-- the member did not start, for a fault of the journal or of memory: nothing is read or written
pub record IsStoppedStart (left left' held held' : Option (List ℕ)) (kept kept' : Option Journals) (k k' status : ℕ) : Type 0 where
  pub why : Stop
  pub inside : IsInside why
  pub ends : status ≡ status_of why
  pub cause : why ≡ stop.KeepFault → Rose k k'
  pub unread : left' ≡ left
  pub unsaid : held' ≡ held
  pub same : KeepsJournals kept kept'

abbrev pub EndsLife : Accepting → Scene → ℕ → Option (List ℕ) → Option (List ℕ) → Option (List ℕ) → Option (List ℕ) → Option Journals → Option Journals → ℕ → ℕ → ℕ → ℕ → ℕ → ℕ → ℕ → Type 0
EndsLife accepts scene m left left' held held' kept kept' r r' w w' k k' status =
    LivedWhole accepts scene m left left' held held' kept kept' status
    ⊎ LivedCut accepts scene m left left' held held' kept kept' r r' w w' k k' status
    ⊎ IsRefusedStart accepts scene m left left' held held' kept kept' w w' status
    ⊎ IsStoppedStart left left' held held' kept kept' k k' status

-- ---- a life over a disk

-- the disk's lists as those of a keeper with the 65 lists of a journal, if it shows its bytes
abbrev pub kept_in : Option History → Option Journals
kept_in told = lists_in 65 told

-- why a journal was not opened: a record that counts is of no list, or a fault
abbrev pub IsUnopenedBy : Unopened → Option History → ℕ → ℕ → Type 0
IsUnopenedBy unopened.BadList told k k' = IfTold told (λ h. (at : ℕ) × (bad_member 65 0 (counted h.now.reads) ≡ Some at))
IsUnopenedBy (unopened.Stopped why) told k k' = IsInside why × (why ≡ stop.KeepFault → Rose k k')

-- A life over the lists of an open log ended: the disk holds the lists that it left, and the records of the opening are the
-- first in each file that is left. In each such file the lists of the records that count are lists with which the life may have
-- ended so: after a fault of the disk a record more is the one that was due.
pub record EndsLog (first : List Record) (accepts : Accepting) (scene : Scene) (m : ℕ) (told' : Option History) (left left' held held' : Option (List ℕ)) (kept : Option Journals) (r r' w w' k k' status : ℕ) : Type 0 where
  pub width : ℕ
  pub lists : Option Journals
  pub ends : EndsLife accepts scene m left left' held held' kept lists r r' w w' k k' status
  pub holds : HoldsLists width k' told' lists
  pub grows : IfTold told' (LeavesFirst first)
  pub each : EachLeft (λ left_lists. EndsLife accepts scene m left left' held held' kept left_lists r r' w w' k k' status) 65 told'

-- the journal was opened, and the life over it ended
pub record IsLife (accepts : Accepting) (scene : Scene) (m : ℕ) (told told' : Option History) (left left' held held' : Option (List ℕ)) (r r' w w' k k' status : ℕ) : Type 0 where
  pub opened : ℕ
  pub later : k ≤ opened
  pub over : EndsLog (counted_in told) accepts scene m told' left left' held held' (kept_in told) r r' w w' opened k' status

-- the journal was not opened: a line may say why, and the records that count are those of before
pub record IsUnopened (told told' : Option History) (left left' held held' : Option (List ℕ)) (w w' k k' status : ℕ) : Type 0 where
  pub why : Unopened
  pub cause : IsUnopenedBy why told k k'
  pub unread : left' ≡ left
  pub said : SaysUnopened why held held' w w' status
  pub stays : Unchanged told told'

abbrev pub EndsJournal : Accepting → Scene → ℕ → Option History → Option History → Option (List ℕ) → Option (List ℕ) → Option (List ℕ) → Option (List ℕ) → ℕ → ℕ → ℕ → ℕ → ℕ → ℕ → ℕ → Type 0
EndsJournal accepts scene m told told' left left' held held' r r' w w' k k' status =
    IsLife accepts scene m told told' left left' held held' r r' w w' k k' status
    ⊎ IsUnopened told told' left left' held held' w w' k k' status

-- ---- the whole of a process that serves, from the text of its set-up

-- this is what the first bytes of the disk are, if the disk shows its bytes
abbrev pub HasHead : Option History → ℕ → List ℕ → Head → Type 0
HasHead told m text it = IfTold told (λ h. it ≡ head_of_file m (genesis_digest text) h.now.reads)

-- the head of the disk lets no member start for this reason: it is not a journal, or another member's or another set-up's,
-- or it was not read
abbrev pub IsHeadRefused : Unstarted → Option History → ℕ → List ℕ → ℕ → ℕ → Type 0
IsHeadRefused (unstarted.Refused start.NotMade) told m text k k' = HasHead told m text head.Unmade
IsHeadRefused (unstarted.Refused start.OtherMember) told m text k k' = HasHead told m text head.OtherMember
IsHeadRefused (unstarted.Refused start.OtherGenesis) told m text k k' = HasHead told m text head.OtherGenesis
IsHeadRefused (unstarted.Refused line) told m text k k' = ⊥
IsHeadRefused (unstarted.Stopped why) told m text k k' = (why ≡ stop.KeepFault) × Rose k k'

-- the text makes no committee with this member, or memory was refused: nothing is read, and the disk is as it was
pub record IsNoGenesis (trust : Trust) (m : ℕ) (text : List ℕ) (told told' : Option History) (left left' held held' : Option (List ℕ)) (w w' k k' status : ℕ) : Type 0 where
  pub why : Unstarted
  pub is : (line : StartLine) → why ≡ unstarted.Refused line → genesis_of trust m text ≡ Err line
  pub memory : (it : Stop) → why ≡ unstarted.Stopped it → it ≡ stop.OutOfMemory
  pub said : SaysUnstarted why held held' w w' status
  pub unread : left' ≡ left
  pub disk : told' ≡ told
  pub uncounted : k' ≡ k

-- the file is not this member's journal of this set-up, or its head was not read: nothing is read, and the disk's moments are as they were
pub record IsNoJournal (trust : Trust) (m : ℕ) (text : List ℕ) (told told' : Option History) (left left' held held' : Option (List ℕ)) (w w' k k' status : ℕ) : Type 0 where
  pub scene : Scene
  pub genesis : genesis_of trust m text ≡ Ok scene
  pub why : Unstarted
  pub is : IsHeadRefused why told m text k k'
  pub said : SaysUnstarted why held held' w w' status
  pub unread : left' ≡ left
  pub disk : told' ≡ told

-- the file is this member's journal of this set-up, and it was opened or not, and lived or not, as `EndsJournal` says
pub record IsBegun (trust : Trust) (accepts : Accepting) (m : ℕ) (text : List ℕ) (told told' : Option History) (left left' held held' : Option (List ℕ)) (r r' w w' k k' status : ℕ) : Type 0 where
  pub scene : Scene
  pub genesis : genesis_of trust m text ≡ Ok scene
  pub own : HasHead told m text head.Own
  pub mid : ℕ
  pub later : k ≤ mid
  pub ends : EndsJournal accepts scene m told told' left left' held held' r r' w w' mid k' status

abbrev pub EndsText : Trust → Accepting → ℕ → List ℕ → Option History → Option History → Option (List ℕ) → Option (List ℕ) → Option (List ℕ) → Option (List ℕ) → ℕ → ℕ → ℕ → ℕ → ℕ → ℕ → ℕ → Type 0
EndsText trust accepts m text told told' left left' held held' r r' w w' k k' status =
    IsNoGenesis trust m text told told' left left' held held' w w' k k' status
    ⊎ IsNoJournal trust m text told told' left left' held held' w w' k k' status
    ⊎ IsBegun trust accepts m text told told' left left' held held' r r' w w' k k' status

-- ---- the program

-- the seals of the program
abbrev pub program_trust : Trust
program_trust = keyed program_secret

-- ---- a process that makes a journal

-- no list has a record, if lists are observable
abbrev pub AreFresh : Option Journals → Type 0
AreFresh None = Unit {0}
AreFresh (Some lists) = lists ≡ journals_of 65 []

-- observable lists grew by the identity record, which says of which member and set-up the journal is
abbrev pub AddsIdentity : ℕ → List ℕ → Option Journals → Option Journals → Type 0
AddsIdentity m text kept kept' = AddsRecord kept kept' 64 (identity_bytes m (genesis_digest text))

-- the journal was made: the lists were empty and have the identity record now, and a line says so
pub record IsMade (m : ℕ) (text : List ℕ) (held held' : Option (List ℕ)) (kept kept' : Option Journals) (w w' status : ℕ) : Type 0 where
  pub fresh : AreFresh kept
  pub adds : AddsIdentity m text kept kept'
  pub said : IsSaid (start.Made m (genesis_digest text)) held held' w w' status

-- the journal was not made: the lists had a record and stay as they were, and a line says so
pub record IsFull (held held' : Option (List ℕ)) (kept kept' : Option Journals) (w w' status : ℕ) : Type 0 where
  pub same : KeepsJournals kept kept'
  pub said : IsSaid start.NotEmpty held held' w w' status

-- the making was stopped by a fault of the journal or of memory: the lists have the identity record or not, and
-- nothing is written
pub record IsUnmade (m : ℕ) (text : List ℕ) (held held' : Option (List ℕ)) (kept kept' : Option Journals) (k k' status : ℕ) : Type 0 where
  pub why : Stop
  pub inside : IsInside why
  pub ends : status ≡ status_of why
  pub cause : why ≡ stop.KeepFault → Rose k k'
  pub unsaid : held' ≡ held
  pub keeps : AddsIdentity m text kept kept' ⊎ KeepsJournals kept kept'

abbrev pub EndsLists : ℕ → List ℕ → Option (List ℕ) → Option (List ℕ) → Option Journals → Option Journals → ℕ → ℕ → ℕ → ℕ → ℕ → Type 0
EndsLists m text held held' kept kept' w w' k k' status =
    IsMade m text held held' kept kept' w w' status
    ⊎ IsFull held held' kept kept' w w' status
    ⊎ IsUnmade m text held held' kept kept' k k' status

-- exactly these records count, both in what the disk reads now and in each file that a crash may leave
pub record HoldsOnly (records : List Record) (h : History) : Type 0 where
  pub reads : counted h.now.reads ≡ records
  pub crash : LeavesRecords h records

-- the identity record is the only one on the disk, if the disk shows its bytes
abbrev pub HasIdentity : ℕ → List ℕ → Option History → Type 0
HasIdentity m text told = IfTold told (HoldsOnly (identity_record m (genesis_digest text) ∷ []))

-- the journal was opened, and the making ended: the disk holds the lists that it left, also in each file that a crash
-- may leave; with status 0 the identity record is the only one
pub record IsMaking (m : ℕ) (text : List ℕ) (told told' : Option History) (held held' : Option (List ℕ)) (w w' k k' status : ℕ) : Type 0 where
  pub opened : ℕ
  pub width : ℕ
  pub lists : Option Journals
  pub later : k ≤ opened
  pub ends : EndsLists m text held held' (kept_in told) lists w w' opened k' status
  pub holds : HoldsLists width k' told' lists
  pub each : EachLeft (λ left_lists. EndsLists m text held held' (kept_in told) left_lists w w' opened k' status) 65 told'
  pub alone : status ≡ 0 → HasIdentity m text told'

abbrev pub EndsMaking : ℕ → List ℕ → Option History → Option History → Option (List ℕ) → Option (List ℕ) → ℕ → ℕ → ℕ → ℕ → ℕ → Type 0
EndsMaking m text told told' held held' w w' k k' status =
    IsMaking m text told told' held held' w w' k k' status
    ⊎ IsUnopened told told' None None held held' w w' k k' status

-- the disk has more bytes than a making that was cut off leaves (66): a line says so, and the disk is as it was
pub record IsTooLong (told told' : Option History) (held held' : Option (List ℕ)) (w w' k k' status : ℕ) : Type 0 where
  pub long : IfTold told (λ h. 66 < length h.now.reads)
  pub said : IsSaid start.NotEmpty held held' w w' status
  pub disk : told' ≡ told
  pub uncounted : k' ≡ k

-- the text makes a committee with this member, and the making ended
pub record IsMakingFor (trust : Trust) (m : ℕ) (text : List ℕ) (told told' : Option History) (held held' : Option (List ℕ)) (w w' k k' status : ℕ) : Type 0 where
  pub scene : Scene
  pub genesis : genesis_of trust m text ≡ Ok scene
  pub ends : EndsMaking m text told told' held held' w w' k k' status

-- how the making of a journal may end: the text makes no committee with this member, the disk has too many bytes, or
-- the making ended
abbrev pub EndsMade : Trust → ℕ → List ℕ → Option History → Option History → Option (List ℕ) → Option (List ℕ) → ℕ → ℕ → ℕ → ℕ → ℕ → Type 0
EndsMade trust m text told told' held held' w w' k k' status =
    IsNoGenesis trust m text told told' None None held held' w w' k k' status
    ⊎ IsTooLong told told' held held' w w' k k' status
    ⊎ IsMakingFor trust m text told told' held held' w w' k k' status

-- how a task may end for the text of its set-up; making a journal reads no request
abbrev pub EndsTask : Task → List ℕ → Option History → Option History → Option (List ℕ) → Option (List ℕ) → Option (List ℕ) → Option (List ℕ) → ℕ → ℕ → ℕ → ℕ → ℕ → ℕ → ℕ → Type 0
EndsTask (task.Make m) text told told' left left' held held' r r' w w' k k' status = (left' ≡ left) × (r' ≡ r) × EndsMade program_trust m text told told' held held' w w' k k' status
EndsTask (task.Serve m) text told told' left left' held held' r r' w w' k k' status = EndsText program_trust program_trust.accepts m text told told' left left' held held' r r' w w' k k' status

-- the set-up was not read: nothing else is read, and nothing is written or kept
pub record IsUnread (g g' : ℕ) (told told' : Option History) (left left' held held' : Option (List ℕ)) (k k' status : ℕ) : Type 0 where
  pub why : Stop
  pub cause : HasCause why g g' 0 0 0 0
  pub ends : status ≡ status_of why
  pub unread : left' ≡ left
  pub unsaid : held' ≡ held
  pub disk : told' ≡ told
  pub uncounted : k' ≡ k

-- the set-up was read, and the task ended
pub record IsDone (it : Task) (setup setup' : Option (List ℕ)) (told told' : Option History) (left left' held held' : Option (List ℕ)) (r r' w w' k k' status : ℕ) : Type 0 where
  pub text : List ℕ
  pub reads : ReadsText longest_text setup setup' text
  pub does : EndsTask it text told told' left left' held held' r r' w w' k k' status

abbrev pub EndsProcess : Task → Option (List ℕ) → Option (List ℕ) → ℕ → ℕ → Option History → Option History → Option (List ℕ) → Option (List ℕ) → Option (List ℕ) → Option (List ℕ) → ℕ → ℕ → ℕ → ℕ → ℕ → ℕ → ℕ → Type 0
EndsProcess it setup setup' g g' told told' left left' held held' r r' w w' k k' status =
    IsUnread g g' told told' left left' held held' k k' status
    ⊎ IsDone it setup setup' told told' left left' held held' r r' w w' k k' status
