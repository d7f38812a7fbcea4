-- What the program promises of the bytes that it reads and writes, and of the records that it keeps.
use Rattle.std.specs.Prelude.{◌≡◌, ◌⊎◌, ℕ, List, ◌++◌, Option, Ok, Err}
use Rattle.std.specs.Io.KnownBytes.{Appends, Consumes, IsAtEnd, Keeps}
use Rattle.outside.specs.Lists.{Journals, KeepsJournals}
use Rattle.schedule_text.specs.declared.words.Event.{Event}
use Rattle.schedule_text.specs.declared.words.Schedule.{Schedule}
use Rattle.schedule_text.specs.Schedule.{Refused, longest_text, schedule_of}
use Rattle.world_spec.specs.Setting.{Trust}
use Rattle.world_spec.specs.Keyed.{keyed, program_secret}
use Rattle.headline_law.specs.Headline.{IsPromised}
use Rattle.committee_core.specs.Report.{refusal_text, setting_in}
use Rattle.outside.specs.Streams.{ReadsText}
use Rattle.committee_core.specs.Ways.{MeetsBadRecord, RunsWhole, TextCut}

-- the seals of the program
unfoldable pub program_trust : Trust
program_trust = keyed program_secret

-- the headline holds after each prefix of the schedule's lines, whether or not the run got that far
abbrev pub HoldsAlong : Schedule → Type 0
HoldsAlong s = (front rest : List Event) → s.events ≡ front ++ rest → IsPromised (setting_in program_trust s) front

-- a whole run: nothing is left of the source, the bytes read are a schedule, its report is written and its journals
-- are kept, and the headline holds at each of its moments
pub record IsWhole (left left' held held' : Option (List ℕ)) (kept kept' : Option Journals) : Type 0 where
  pub text : List ℕ
  pub schedule : Schedule
  pub read : Consumes left left' text
  pub ended : IsAtEnd left'
  pub is : schedule_of text ≡ Ok schedule
  pub runs : RunsWhole program_trust schedule held held' kept kept'
  pub holds : HoldsAlong schedule

-- the bytes read, to the end or to one past the limit, are not a schedule, and the line that says why was written
pub record IsRefused (left left' held held' : Option (List ℕ)) (kept kept' : Option Journals) : Type 0 where
  pub text : List ℕ
  pub refused : Refused
  pub read : ReadsText longest_text left left' text
  pub is : schedule_of text ≡ Err refused
  pub written : Appends held held' (refusal_text refused)
  pub stays : KeepsJournals kept kept'

-- the text was read whole, it is a schedule, and a record that was read back is bad
pub record IsBad (left left' held held' : Option (List ℕ)) (kept : Option Journals) : Type 0 where
  pub text : List ℕ
  pub schedule : Schedule
  pub read : Consumes left left' text
  pub ended : IsAtEnd left'
  pub is : schedule_of text ≡ Ok schedule
  pub meets : MeetsBadRecord program_trust schedule Appends held held' kept
  pub holds : HoldsAlong schedule

-- the text was read whole, and a prefix of what is to be written and kept for it was written and kept
pub record WritesFront (left left' held held' : Option (List ℕ)) (kept kept' : Option Journals) : Type 0 where
  pub text : List ℕ
  pub read : ReadsText longest_text left left' text
  pub cut : TextCut program_trust (schedule_of text) held held' kept kept'
  pub holds : (s : Schedule) → schedule_of text ≡ Ok s → HoldsAlong s

-- a run that broke off: nothing was written and kept, or a prefix of what was to be
abbrev pub IsCut : Option (List ℕ) → Option (List ℕ) → Option (List ℕ) → Option (List ℕ) → Option Journals → Option Journals → Type 0
IsCut left left' held held' kept kept' = (Keeps held held' × KeepsJournals kept kept') ⊎ WritesFront left left' held held' kept kept'
