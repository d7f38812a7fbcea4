-- The claim that a schedule has a certain report.
use Rattle.std.specs.Prelude.{◌≡◌, List}
use Rattle.schedule_text.specs.declared.words.Setup.{Setup}
use Rattle.schedule_text.specs.declared.words.Event.{Event}
use Rattle.report_text.specs.declared.lines.Line.{Line}
use Rattle.world_spec.specs.Keyed.{keyed, program_secret}
use Rattle.world_spec.specs.Run.{report_of}

-- the schedule of these set-up lines and events has this report
abbrev pub Reports : List Setup → List Event → List Line → Type 0
Reports lines events report = report_of (keyed program_secret) (record { setup = lines; events = events }) ≡ report
