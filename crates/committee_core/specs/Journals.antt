-- The records that a keeper keeps in a run.
use Rattle.std.specs.Prelude.{◌≡◌, ◌≤◌, ◌⊎◌, ℕ, false, List, [], length, ◌++◌, Option, Some, None, Ok}
use Rattle.outside.specs.Lists.{Journals, journal_of}
use Rattle.schedule_text.specs.declared.words.Event.{Event}
use Rattle.schedule_text.specs.declared.words.Schedule.{Schedule}
use Rattle.schedule_text.specs.Schedule.{schedule_of}
use Rattle.protocol_spec.specs.Chain.Words.{Each}
use Rattle.world_spec.specs.Setting.{Setting, Trust}
use Rattle.world_spec.specs.Run.{journal, world_after}
use Rattle.world_spec.specs.SceneWorlds.{AreKeepable, IsFront, Restarts, is_restart}
use Rattle.committee_core.specs.Report.{setting_in}

-- the keeper's lists are observable
abbrev pub IsTold : Option Journals → Type 0
IsTold None = ⊥
IsTold (Some lists) = Unit {0}

-- observable lists have no records; true if lists are not observable
abbrev pub AreEmpty : Option Journals → Type 0
AreEmpty None = Unit {0}
AreEmpty (Some lists) = (m : ℕ) → journal_of lists m ≡ []

-- the line reads no records
abbrev pub ReadsNone : Event → Type 0
ReadsNone e = is_restart e ≡ false

-- what these lines read back is what was appended: the keeper shows its lists, or no line reads any
abbrev pub ReadsBack : Option Journals → List Event → Type 0
ReadsBack kept events = IsTold kept ⊎ Each ReadsNone events

-- observable lists stay observable, and are the members' journals of the schedule's run
abbrev pub KeepsRun : Trust → Schedule → Option Journals → Option Journals → Type 0
KeepsRun trust s None now = Unit {0}
KeepsRun trust s (Some old) now = (lists : Journals) × (now ≡ Some lists) × ((m : ℕ) → journal_of lists m ≡ journal (setting_in trust s) s.events m)

-- observable lists stay observable, and each is a prefix of its member's journal of the schedule's run
abbrev pub KeepsFronts : Trust → Schedule → Option Journals → Option Journals → Type 0
KeepsFronts trust s None now = Unit {0}
KeepsFronts trust s (Some old) now = (lists : Journals) × (now ≡ Some lists) × ((m : ℕ) → IsFront (journal_of lists m) (journal (setting_in trust s) s.events m))

-- there are at least `n` lists, if lists are observable
abbrev pub AreAtLeast : Option Journals → ℕ → Type 0
AreAtLeast None n = Unit {0}
AreAtLeast (Some lists) n = n ≤ length lists

-- every member starts from its journal, after each prefix of these events whose entries can be kept
abbrev pub StartsAlong : Setting → List Event → Type 0
StartsAlong s events = (front back : List Event) → events ≡ front ++ back → AreKeepable (world_after s front).sequences → Restarts s (world_after s front)

-- in the run of each text that is a schedule, every member starts from its journal all along (`StartsAlong`)
abbrev pub StartsWhereRead : Trust → Type 0
StartsWhereRead trust = (text : List ℕ) (s : Schedule) → schedule_of text ≡ Ok s → StartsAlong (setting_in trust s) s.events
