-- The claim that the run of a text meets the run assumptions, and has a certain report.
use Rattle.std.specs.Prelude.{◌≡◌, ℕ, List, [], ◌∷◌, ◌++◌, flat_map, Ok}
use Rattle.schedule_text.specs.declared.words.Schedule.{Schedule}
use Rattle.schedule_text.specs.Schedule.{schedule_of}
use Rattle.report_text.specs.declared.lines.Line.{Line}
use Rattle.world_spec.specs.Setting.{setting_of}
use Rattle.world_spec.specs.Keyed.{keyed, program_secret}
use Rattle.world_spec.specs.Run.{report_of}
use Rattle.world_spec.specs.Assumptions.{IsHonestRun}

-- a line feed after each line
abbrev pub text_of : List (List ℕ) → List ℕ
text_of lines = flat_map (λ line. line ++ 10 ∷ []) lines

-- these lines are a schedule; its run with the program's own seals meets all run assumptions, up to its end; and this is
-- its report
pub record IsMetBy (lines : List (List ℕ)) (report : List Line) : Type 0 where
  pub schedule : Schedule
  pub read : schedule_of (text_of lines) ≡ Ok schedule
  pub honest : IsHonestRun (setting_of (keyed program_secret) schedule.setup) schedule.events
  pub reported : report_of (keyed program_secret) schedule ≡ report
