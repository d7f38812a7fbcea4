-- A text that was read whole, and what the laws of whole runs give for it.
use Rattle.std.proofs.Common.{◌≡◌, ℕ, List, ◌++◌, Option, Ok, Err, inr, sym, subst}
use Rattle.std.specs.Io.KnownBytes.{Appends}
use Rattle.outside.specs.Lists.{Journals, KeepsJournals}
use Rattle.schedule_text.specs.declared.words.Event.{Event}
use Rattle.schedule_text.specs.declared.words.Schedule.{Schedule}
use Rattle.schedule_text.specs.Schedule.{Refused, longest_text, schedule_of}
use Rattle.world_spec.specs.Setting.{Trust}
use Rattle.world_spec.specs.Keyed.{program_secret}
use Rattle.world_spec.specs.Run.{world_after}
use Rattle.world_spec.specs.SceneWorlds.{AreKeepable, Restarts}
use Rattle.run_law.specs.HonestTexts.{keyed_setting}
use Rattle.headline_law.proofs.Moments.{moment_is_promised}
use Rattle.committee_core.specs.Headline.{HoldsAlong, IsBad, IsCut, IsRefused, IsWhole, program_trust}
use Rattle.committee_core.specs.Journals.{StartsWhereRead}
use Rattle.committee_core.specs.Report.{refusal_text, setting_in}
use Rattle.outside.specs.Streams.{ReadsText}
use Rattle.committee_core.specs.Ways.{MeetsBadRecord, RunsWhole, TextCut}
use Rattle.committee_core.proofs.Whole.{short}

-- the members of the run of a text that is read start from their records
pub read_starts : ((text : List ℕ) (t : Schedule) → schedule_of text ≡ Ok t → (secret : List ℕ) → (front rest : List Event) → t.events ≡ front ++ rest → AreKeepable (world_after (keyed_setting secret t) front).sequences → Restarts (keyed_setting secret t) (world_after (keyed_setting secret t) front))
    → (trust : Trust) → trust ≡ program_trust → StartsWhereRead trust
unfolding program_trust
read_starts law trust same = λ text s is front back cut.
    subst (λ (t : Trust). AreKeepable (world_after (setting_in t s) front).sequences → Restarts (setting_in t s) (world_after (setting_in t s) front)) (sym same)
    (law text s is program_secret front back cut)

-- the headline holds at each moment of the run of a text that is read
pub holds_along : (text : List ℕ) (s : Schedule) → schedule_of text ≡ Ok s → HoldsAlong s
holds_along text s is = moment_is_promised text s is program_trust

-- the text was read, it is a schedule, and it ran
pub whole : (left left' held held' : Option (List ℕ)) (kept kept' : Option Journals) (text : List ℕ) → ReadsText longest_text left left' text
    → (s : Schedule) × (schedule_of text ≡ Ok s) × RunsWhole program_trust s held held' kept kept' → IsWhole left left' held held' kept kept'
whole left left' held held' kept kept' text read (s, is, runs) = record {
  text = text;
  schedule = s;
  read = read.read;
  ended = read.ended (short text s is);
  is = is;
  runs = runs;
  holds = holds_along text s is;
}

pub refused : (left left' held held' : Option (List ℕ)) (kept kept' : Option Journals) (text : List ℕ) → ReadsText longest_text left left' text
    → (r : Refused) × (schedule_of text ≡ Err r) × Appends held held' (refusal_text r) × KeepsJournals kept kept' → IsRefused left left' held held' kept kept'
refused left left' held held' kept kept' text read (r, is, written, stays) = record { text = text; refused = r; read = read; is = is; written = written; stays = stays }

pub cut : (left left' held held' : Option (List ℕ)) (kept kept' : Option Journals) (text : List ℕ) → ReadsText longest_text left left' text
    → TextCut program_trust (schedule_of text) held held' kept kept' → IsCut left left' held held' kept kept'
cut left left' held held' kept kept' text read ends = inr (record { text = text; read = read; cut = ends; holds = λ s is. holds_along text s is })

pub bad : (left left' held held' : Option (List ℕ)) (kept : Option Journals) (text : List ℕ) → ReadsText longest_text left left' text
    → (s : Schedule) × (schedule_of text ≡ Ok s) × MeetsBadRecord program_trust s Appends held held' kept → IsBad left left' held held' kept
bad left left' held held' kept text read (s, is, meets) = record {
  text = text;
  schedule = s;
  read = read.read;
  ended = read.ended (short text s is);
  is = is;
  meets = meets;
  holds = holds_along text s is;
}
