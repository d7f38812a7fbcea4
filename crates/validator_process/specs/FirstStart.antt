-- The first start of a member after its journal was made. Source: this profile.
use Rattle.std.specs.Prelude.{◌≡◌, ◌⊎◌, ◌≤◌, ℕ, List, [], length, Option, Some, Ok}
use Rattle.outside.specs.Lists.{Journals}
use Rattle.schedule_text.specs.Schedule.{longest_text}
use Rattle.world_spec.specs.Scene.{Scene}
use Rattle.lives_law.specs.Files.{Follows, kept_of}
use Rattle.validator_process.specs.declared.stop.Stop.{Stop}
use Rattle.validator_process.specs.declared.words.Task.TheVariants as task
use Rattle.validator_process.specs.Ending.{EndsProcess, HasCause, LivedCut, LivedWhole, kept_in, program_trust}
use Rattle.validator_process.specs.Genesis.{genesis_of}
use Rattle.validator_process.specs.Living.{IsProcess, Process}
use Rattle.validator_process.specs.Stops.{status_of}

-- a process that made the journal of this member of this set-up: it ended with status 0 as the clauses of `validator`
-- allow
pub record HasMade (m : ℕ) (text : List ℕ) (p : Process) : Type 0 where
  pub ends : EndsProcess (task.Make m) (Some text) p.setup p.setup_before p.setup_faults (Some p.first) (Some p.last) p.asked p.unread p.held p.holds p.read_before p.read_faults p.write_before p.write_faults p.disk_before p.disk_faults p.status
  pub done : p.status ≡ 0

-- the member started from no records, said `ready`, and served to the end of its input or was cut off; or it was cut
-- off while it said so
pub record IsUp (scene : Scene) (m : ℕ) (p : Process) : Type 0 where
  pub empty : kept_of 65 m p.first.now.reads ≡ []
  pub opened : ℕ
  pub lists : Option Journals
  pub lived : LivedWhole program_trust.accepts scene m p.asked p.unread p.held p.holds (kept_in (Some p.first)) lists p.status
      ⊎ LivedCut program_trust.accepts scene m p.asked p.unread p.held p.holds (kept_in (Some p.first)) lists p.read_before p.read_faults p.write_before p.write_faults opened p.disk_faults p.status

-- a fault of the set-up or of the disk, or of memory, stopped it before its first line: no request is read, and nothing
-- is written
pub record IsStopped (p : Process) : Type 0 where
  pub why : Stop
  pub cause : HasCause why p.setup_before p.setup_faults 0 0 p.disk_before p.disk_faults
  pub ends : p.status ≡ status_of why
  pub unread : p.unread ≡ p.asked
  pub unsaid : p.holds ≡ p.held

-- the text makes a committee with the member, and no line refuses the start
pub record IsStarted (m : ℕ) (text : List ℕ) (p : Process) : Type 0 where
  pub scene : Scene
  pub genesis : genesis_of program_trust m text ≡ Ok scene
  pub starts : IsUp scene m p ⊎ IsStopped p

-- the theorem of the first start: after a making with status 0, even if a crash followed it, no line refuses the
-- start
abbrev pub MadeStarts : Type 0
MadeStarts = (m : ℕ) (text : List ℕ) → m ≤ 63 → length text ≤ longest_text → (made next : Process) → HasMade m text made → Follows made.last next.first → IsProcess m text next → IsStarted m text next
