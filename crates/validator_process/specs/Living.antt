-- The processes of one member on one file, and their lives. Source: this profile.
use Rattle.std.specs.Prelude.{◌≡◌, ◌⊎◌, ◌≤◌, ℕ, List, [], ◌∷◌, ◌++◌, length, Option, Some, None, Ok}
use Rattle.std.specs.List.{flat_map}
use Rattle.outside.specs.Streams.{AppendsFront}
use Rattle.disk_log.specs.Disk.{History, IsQuiet}
use Rattle.schedule_text.specs.Schedule.{longest_text}
use Rattle.protocol_spec.specs.Member.Calls.{Call, acks, closes, ends, holds, runs, sees, turns, votes}
use Rattle.world_spec.specs.Posts.{list_of}
use Rattle.world_spec.specs.Scene.{Scene, rules_in}
use Rattle.world_spec.specs.Seats.{Seated}
use Rattle.world_core.specs.Replies.{Accepting}
use Rattle.process_lines.specs.declared.request.Request.{Request}
use Rattle.process_lines.specs.declared.request.Request.TheVariants as request
use Rattle.validator_process.specs.declared.words.Task.TheVariants as task
use Rattle.validator_process.specs.Ending.{EndsProcess, program_trust}
use Rattle.validator_process.specs.Genesis.{genesis_of, ready_line, started_in}
use Rattle.validator_process.specs.Serving.{AreAnswered, Exchange, request_in}
use Rattle.validator_process.specs.Starting.{start_bytes}
use Rattle.lives_law.specs.Lives.{NothingIsTakenBack}
use Rattle.lives_law.specs.Files.{AreLivesOf, Follows, IsLeft, Run, kept_of, records_of}

-- ---- the calls of lines

-- the call of a life that a request makes; none if it only looks
abbrev pub asked_by : Request → Option Call
asked_by (request.Vote bytes) = Some (votes bytes)
asked_by (request.Hold bytes) = Some (holds bytes)
asked_by (request.See number entry) = Some (sees number entry)
asked_by (request.Run workers) = Some runs
asked_by request.Close = Some closes
asked_by request.End = Some ends
asked_by request.Turn = Some turns
asked_by (request.Ack tx) = Some (acks tx)
asked_by (request.Checkpoint number) = None
asked_by (request.Object id) = None
asked_by (request.Version id version) = None
asked_by (request.Effects tx) = None
asked_by request.State = None

abbrev pub asked_in : Option Request → List Call
asked_in None = []
asked_in (Some q) = list_of (asked_by q)

abbrev pub calls_of : List Exchange → List Call
calls_of exchanges = flat_map (λ (x : Exchange). asked_in (request_in x.line)) exchanges

-- ---- one process

-- what a process found and left: of the set-up, with its count of faults, of the disk's moments, of the requests and the
-- sink, with their counts and the disk's, and its status
pub record Process : Type 0 where
  pub setup : Option (List ℕ)
  pub setup_before : ℕ
  pub setup_faults : ℕ
  pub first : History
  pub last : History
  pub asked : Option (List ℕ)
  pub unread : Option (List ℕ)
  pub held : Option (List ℕ)
  pub holds : Option (List ℕ)
  pub read_before : ℕ
  pub read_faults : ℕ
  pub write_before : ℕ
  pub write_faults : ℕ
  pub disk_before : ℕ
  pub disk_faults : ℕ
  pub status : ℕ

-- a process that serves this member of this set-up: it ended as the clauses of `validator` allow
abbrev pub IsProcess : ℕ → List ℕ → Process → Type 0
IsProcess m text p =
    EndsProcess (task.Serve m) (Some text) p.setup p.setup_before p.setup_faults (Some p.first) (Some p.last) p.asked p.unread p.held p.holds p.read_before p.read_faults p.write_before p.write_faults p.disk_before p.disk_faults p.status

-- the member started from the file, and what was written is a prefix of its first line and of the member's answers to
-- lines; these are the calls of the lines
pub record HasAnswered (scene : Scene) (m : ℕ) (p : Process) (calls : List Call) : Type 0 where
  pub seat : Seated
  pub exchanges : List Exchange
  pub starts : started_in program_trust.accepts scene m (kept_of 65 m p.first.now.reads) ≡ Ok seat
  pub answers : AreAnswered program_trust.accepts seat exchanges
  pub writes : AppendsFront p.held p.holds (start_bytes (ready_line seat) ++ flat_map (λ (x : Exchange). x.text) exchanges)
  pub are : calls ≡ calls_of exchanges

-- no request was read
pub record HasNotAnswered (p : Process) (calls : List Call) : Type 0 where
  pub none : calls ≡ []
  pub unread : p.unread ≡ p.asked

-- this run is the process's: from what it found on the disk to what it left, with the calls that it answered
pub record IsRunOf (scene : Scene) (m : ℕ) (p : Process) (run : Run) : Type 0 where
  pub first : run.first ≡ p.first
  pub last : run.last ≡ p.last
  pub said : HasAnswered scene m p run.calls ⊎ HasNotAnswered p run.calls

-- ---- one after the other

-- processes of this member one after the other on one disk, each from what the one before left, and a file that the
-- last may leave
abbrev pub AreProcesses : ℕ → List ℕ → History → List Process → List ℕ → Type 0
AreProcesses m text h [] file = IsLeft h file
AreProcesses m text h (p ∷ ps) file = Follows h p.first × IsProcess m text p × AreProcesses m text p.last ps file

abbrev pub AreRunsOf : Scene → ℕ → List Process → List Run → Type 0
AreRunsOf scene m [] [] = Unit {0}
AreRunsOf scene m [] (run ∷ after) = ⊥
AreRunsOf scene m (p ∷ ps) [] = ⊥
AreRunsOf scene m (p ∷ ps) (run ∷ after) = IsRunOf scene m p run × AreRunsOf scene m ps after

-- the processes of a member on one file have lives: the calls of these are what the processes answered, and nothing of it
-- is taken back
pub record HaveLives (scene : Scene) (m : ℕ) (h : History) (ps : List Process) (file : List ℕ) : Type 0 where
  pub ran : List Run
  pub are : AreRunsOf scene m ps ran
  pub lives : AreLivesOf (rules_in program_trust.accepts scene) scene.opening 65 m (records_of 65 m h.now.reads) ran file
  pub stand : NothingIsTakenBack (rules_in program_trust.accepts scene) scene.opening lives.lives (records_of 65 m file)

abbrev pub ProcessesLive : Type 0
ProcessesLive = (m : ℕ) (text : List ℕ) (scene : Scene) → m ≤ 63 → length text ≤ longest_text → genesis_of program_trust m text ≡ Ok scene
    → (h : History) (ps : List Process) (file : List ℕ) → IsQuiet h → AreProcesses m text h ps file → HaveLives scene m h ps file
