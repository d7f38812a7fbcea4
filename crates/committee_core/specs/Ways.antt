-- The ways in which the run of a schedule ends: each says what is written (`held` before, `held'` after) and kept
-- (`kept`, `kept'`).
use Rattle.std.specs.Prelude.{◌≡◌, ◌⊎◌, ℕ, List, ◌∷◌, ◌++◌, Option, None, Result, Ok, Err}
use Rattle.std.specs.Io.KnownBytes.{Appends}
use Rattle.outside.specs.Lists.{Journals, KeepsJournals}
use Rattle.report_text.specs.declared.lines.Line.TheVariants as line
use Rattle.report_text.specs.declared.lines.RestartText.TheVariants as restart_text
use Rattle.report_text.specs.Text.{text_of}
use Rattle.schedule_text.specs.declared.words.Event.{Event}
use Rattle.schedule_text.specs.declared.words.Event.TheVariants as event
use Rattle.schedule_text.specs.declared.words.Schedule.{Schedule}
use Rattle.schedule_text.specs.Schedule.{Refused, schedule_of}
use Rattle.protocol_spec.specs.declared.refusals.StartRefusal.TheVariants as no_start
use Rattle.world_spec.specs.Setting.{Setting, Trust}
use Rattle.world_spec.specs.Run.{report, world_after}
use Rattle.world_spec.specs.Scene.{Scene}
use Rattle.world_spec.specs.Starts.{started}
use Rattle.world_spec.specs.SceneWorlds.{Shows}
use Rattle.committee_core.specs.Journals.{KeepsFronts, KeepsRun, ReadsBack}
use Rattle.committee_core.specs.Report.{lines_text, refusal_text, report_text, setting_in}
use Rattle.outside.specs.Streams.{AppendsFront}

-- all events ran: the whole report is written, and the lists are the members' journals
pub record RunsWhole (trust : Trust) (s : Schedule) (held held' : Option (List ℕ)) (kept kept' : Option Journals) : Type 0 where
  pub written : ReadsBack kept s.events → Appends held held' (report_text trust s)
  pub journals : KeepsRun trust s kept kept'

-- what the code sees of the world after all events is the definition's, if what is read back is what was appended
abbrev pub ShowsRun : Trust → Schedule → Option Journals → Scene → Type 0
ShowsRun trust s kept sc = ReadsBack kept s.events → Shows trust (setting_in trust s) (world_after (setting_in trust s) s.events) sc

-- the run broke off: a prefix of the report is written, and the lists are prefixes of the members' journals
pub record RunsFront (trust : Trust) (s : Schedule) (held held' : Option (List ℕ)) (kept kept' : Option Journals) : Type 0 where
  pub written : ReadsBack kept s.events → AppendsFront held held' (report_text trust s)
  pub journals : KeepsFronts trust s kept kept'

abbrev pub bad_record_text : ℕ → ℕ → List ℕ
bad_record_text member place = text_of (line.Restart member (restart_text.BadRecord place))

-- records from which a member of the setting does not start: the one at this place is the first that does not decode, or that no
-- call would have appended
pub record HasBad (s : Setting) (place : ℕ) : Type 0 where
  pub records : List (List ℕ)
  pub why : ℕ
  pub stops : started s.rules s.opening records ≡ Err (no_start.BadRecord place why)

-- a record that was read back is bad: the report of the lines before it is written, and the line that says so.
-- A keeper that shows its lists gives none.
pub record MeetsBadRecord (trust : Trust) (s : Schedule) (Writes : Option (List ℕ) → Option (List ℕ) → List ℕ → Type 0) (held held' : Option (List ℕ)) (kept : Option Journals) : Type 0 where
  pub front : List Event
  pub back : List Event
  pub member : ℕ
  pub place : ℕ
  pub restarts : s.events ≡ front ++ event.Restart member ∷ back
  pub untold : kept ≡ None
  pub bad : ReadsBack kept front → HasBad (setting_in trust s) place
  pub written : ReadsBack kept front → Writes held held' (lines_text (report (setting_in trust s) front) ++ bad_record_text member place)

-- the run broke off, at any point or in the line that says that a record is bad
abbrev pub RunsCut : Trust → Schedule → Option (List ℕ) → Option (List ℕ) → Option Journals → Option Journals → Type 0
RunsCut trust s held held' kept kept' = RunsFront trust s held held' kept kept' ⊎ MeetsBadRecord trust s AppendsFront held held' kept

-- a text whose run, or whose refusal, broke off
abbrev pub TextCut : Trust → Result Schedule Refused → Option (List ℕ) → Option (List ℕ) → Option Journals → Option Journals → Type 0
TextCut trust (Ok s) held held' kept kept' = RunsCut trust s held held' kept kept'
TextCut trust (Err r) held held' kept kept' = AppendsFront held held' (refusal_text r) × KeepsJournals kept kept'

-- the text is a schedule whose events all ran, no report was written, and this is seen of the world after them
pub record RunsSilently (trust : Trust) (text : List ℕ) (kept kept' : Option Journals) (sc : Scene) : Type 0 where
  pub schedule : Schedule
  pub is : schedule_of text ≡ Ok schedule
  pub shows : ShowsRun trust schedule kept sc
  pub journals : KeepsRun trust schedule kept kept'
