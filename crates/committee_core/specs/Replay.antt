-- What the program promises of `replay M`: it starts member M of the schedule's set-up from the records that the keeper has, and
-- writes how that went; no event of the schedule runs.
use Rattle.std.specs.Prelude.{◌≡◌, ◌⊎◌, ℕ, List, [], ◌∷◌, ◌++◌, Option, Result, Ok, Err, codes, decimal, length, if◌then◌else◌}
use Rattle.std.specs.Io.KnownBytes.{Appends, Keeps}
use Rattle.outside.specs.Causes.{Rose}
use Rattle.outside.specs.Lists.{Journals, KeepsJournals}
use Rattle.report_text.specs.declared.lines.Line.{Line}
use Rattle.report_text.specs.declared.lines.Line.TheVariants as line
use Rattle.report_text.specs.declared.lines.RestartText.TheVariants as restart_text
use Rattle.schedule_text.specs.declared.words.Schedule.{Schedule}
use Rattle.schedule_text.specs.Schedule.{Refused, longest_text, schedule_of}
use Rattle.protocol_spec.specs.declared.refusals.StartRefusal.{StartRefusal}
use Rattle.protocol_spec.specs.declared.refusals.StartRefusal.TheVariants as no_start
use Rattle.protocol_spec.specs.Member.Member.{Member, live_objects}
use Rattle.world_spec.specs.Setting.{Trust}
use Rattle.world_spec.specs.World.{is_honest, new_world}
use Rattle.world_spec.specs.Report.{shown}
use Rattle.world_spec.specs.Starts.{started}
use Rattle.world_core.specs.SeatRestarts.{IsJournal}
use Rattle.committee_core.specs.Headline.{program_trust}
use Rattle.committee_core.specs.Outside.{Outside}
use Rattle.committee_core.specs.Report.{lines_text, refusal_text, setting_in}
use Rattle.outside.specs.Streams.{AppendsFront, ReadsText}
use Rattle.committee_core.specs.Ways.{bad_record_text}

-- `replay M: no honest member`
abbrev pub no_member_text : ℕ → List ℕ
no_member_text m = codes "replay " ++ decimal m ++ codes ": no honest member" ++ 10 ∷ []

-- `restart M: records N`, and what `show M` says of a member in this state, by the names of the set-up
abbrev pub restarted_lines : Trust → Schedule → ℕ → ℕ → Member → List Line
restarted_lines trust s m count state =
    line.Restart m (restart_text.Records count) ∷ shown (setting_in trust s) (new_world (setting_in trust s)) m state.epoch (live_objects state)

-- how a replay ends if nothing fails: its status, and the bytes that it writes
pub record Ending : Type 0 where
  pub status : ℕ
  pub text : List ℕ

-- the ending after a start from the member's records: the lines of the member's state, or of the bad record. (A
-- definition never runs out of memory.)
abbrev pub start_ending : Trust → Schedule → ℕ → ℕ → Result Member StartRefusal → Ending
start_ending trust s m count (Ok state) = record { status = 0; text = lines_text (restarted_lines trust s m count state) }
start_ending trust s m count (Err (no_start.BadRecord place why)) = record { status = 6; text = bad_record_text m place }
start_ending trust s m count (Err no_start.OutOfMemory) = record { status = 7; text = [] }

-- the ending for a schedule: member `m` starts from these records if the set-up makes it honest, else the line says
-- that it does not
abbrev pub member_ending : Trust → Schedule → ℕ → List (List ℕ) → Ending
member_ending trust s m records =
    if is_honest (new_world (setting_in trust s)) m
    then start_ending trust s m (length records) (started (setting_in trust s).rules (setting_in trust s).opening records)
    else record { status = 8; text = no_member_text m }

-- the ending for any text: one that is not a schedule is refused
abbrev pub text_ending : Trust → ℕ → Result Schedule Refused → List (List ℕ) → Ending
text_ending trust m (Ok s) records = member_ending trust s m records
text_ending trust m (Err r) records = record { status = 3; text = refusal_text r }

-- a relation between what the sink held before, what it holds now, and the bytes that were to be written (`Appends`:
-- all were; `AppendsFront`: a prefix)
abbrev pub Writing : Type 1
Writing = Option (List ℕ) → Option (List ℕ) → List ℕ → Type 0

-- the replay ends with this status, and its bytes were written as `Writes` says; it starts from records that are the
-- member's list, if lists are observable
pub record Says (ending : List (List ℕ) → Ending) (m : ℕ) (Writes : Writing) (status : ℕ) (kept : Option Journals) (held held' : Option (List ℕ)) : Type 0 where
  pub records : List (List ℕ)
  pub are : IsJournal kept m records
  pub ends : (ending records).status ≡ status
  pub written : Writes held held' (ending records).text

-- nothing was written, or a prefix of the bytes of an ending
abbrev pub SaysFront : (List (List ℕ) → Ending) → ℕ → Option Journals → Option (List ℕ) → Option (List ℕ) → Type 0
SaysFront ending m kept held held' = Keeps held held' ⊎ ((status : ℕ) × Says ending m AppendsFront status kept held held')

-- the text was read, to the end of the source or to one byte past the limit, and this was said of it
pub record SaysOfText (m : ℕ) (Saying : (List (List ℕ) → Ending) → Type 0) (left left' : Option (List ℕ)) : Type 0 where
  pub text : List ℕ
  pub read : ReadsText longest_text left left' text
  pub says : Saying (text_ending program_trust m (schedule_of text))

-- how `replay M` may end, by its status
pub record ReplayEnds (m : ℕ) (before now : Outside) (status : ℕ) : Type 0 where
  pub known : (status ≡ 0) ⊎ (status ≡ 3) ⊎ (status ≡ 4) ⊎ (status ≡ 5) ⊎ (status ≡ 6) ⊎ (status ≡ 7) ⊎ (status ≡ 8)
  pub stays : KeepsJournals before.kept now.kept
  pub whole : (status ≡ 0) ⊎ (status ≡ 3) ⊎ (status ≡ 8) → SaysOfText m (λ ending. Says ending m Appends status before.kept before.held now.held) before.left now.left
  pub read_fault : status ≡ 4 → Rose before.read_faults now.read_faults
  pub unwritten : status ≡ 4 → Keeps before.held now.held
  pub write_fault : status ≡ 5 → Rose before.write_faults now.write_faults
  pub bad : status ≡ 6 → SaysOfText m (λ ending. Says ending m Appends 6 before.kept before.held now.held) before.left now.left ⊎ (Rose before.keep_faults now.keep_faults × Keeps before.held now.held)
  pub cut : (status ≡ 5) ⊎ (status ≡ 7) → Keeps before.held now.held ⊎ SaysOfText m (λ ending. SaysFront ending m before.kept before.held now.held) before.left now.left
