-- What stands on the disk when a line is handed to the sink. Source: this profile.
use Rattle.std.specs.Prelude.{◌≡◌, ◌⊎◌, ◌≤◌, ℕ, List, [], ◌∷◌, ◌++◌, length, Option, Ok}
use Rattle.std.specs.List.{flat_map}
use Rattle.std.specs.Io.KnownBytes.{Appends}
use Rattle.outside.specs.Streams.{AppendsFront}
use Rattle.schedule_text.specs.Schedule.{longest_text}
use Rattle.protocol_spec.specs.Chain.Words.{IsFront}
use Rattle.world_spec.specs.Scene.{Scene}
use Rattle.world_spec.specs.Seats.{Seated}
use Rattle.process_lines.specs.declared.starts.StartLine.{StartLine}
use Rattle.lives_law.specs.Files.{IsLeft, kept_of}
use Rattle.validator_process.specs.Ending.{program_trust}
use Rattle.validator_process.specs.Genesis.{genesis_of, ready_line, started_in}
use Rattle.validator_process.specs.Living.{IsProcess, Process}
use Rattle.validator_process.specs.Serving.{AreAnswered, Exchange, records_left}
use Rattle.validator_process.specs.Starting.{start_bytes}

-- the line that was handed to the sink was the first of the process, which rests on no record; no request is read yet
pub record IsFirstHanded (p : Process) : Type 0 where
  pub line : StartLine
  pub writes : AppendsFront p.held p.holds (start_bytes line)
  pub unread : p.unread ≡ p.asked

-- the line that was handed to the sink was an answer: those before it are written, and each file that a crash may
-- leave then has the records that the member started from, those of the answers before, and this answer's own
pub record IsAnswerHanded (scene : Scene) (m : ℕ) (p : Process) : Type 0 where
  pub seat : Seated
  pub before : List Exchange
  pub handed : Exchange
  pub said : Option (List ℕ)
  pub starts : started_in program_trust.accepts scene m (kept_of 65 m p.first.now.reads) ≡ Ok seat
  pub answers : AreAnswered program_trust.accepts seat (before ++ handed ∷ [])
  pub written : Appends p.held said (start_bytes (ready_line seat) ++ flat_map (λ (x : Exchange). x.text) before)
  pub writes : AppendsFront said p.holds handed.text
  pub stands : (file : List ℕ) → IsLeft p.last file → IsFront (kept_of 65 m p.first.now.reads ++ records_left program_trust.accepts seat (before ++ handed ∷ [])) (kept_of 65 m file)

-- The theorem "kept before said": when a line is handed to the sink, the records on which it rests stand in each file
-- that a crash may leave. It is said of the process that stops with status 5 because its sink fails at that line,
-- perhaps at the first byte.
abbrev pub KeptFirst : Type 0
KeptFirst = (m : ℕ) (text : List ℕ) (scene : Scene) → m ≤ 63 → length text ≤ longest_text → genesis_of program_trust m text ≡ Ok scene
    → (p : Process) → IsProcess m text p → p.status ≡ 5 → IsFirstHanded p ⊎ IsAnswerHanded scene m p
