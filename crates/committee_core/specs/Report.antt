-- The report of a run, as bytes.
use Rattle.std.specs.Prelude.{ℕ, List}
use Rattle.std.specs.List.{flat_map}
use Rattle.report_text.specs.declared.lines.Line.{Line}
use Rattle.report_text.specs.declared.lines.Line.TheVariants as line
use Rattle.report_text.specs.Text.{text_of}
use Rattle.schedule_text.specs.declared.words.Schedule.{Schedule}
use Rattle.schedule_text.specs.Schedule.{Refused}
use Rattle.world_spec.specs.Setting.{Setting, Trust, setting_of}
use Rattle.world_spec.specs.Run.{report_of}

-- the setting of a schedule: what its set-up lines fix for the whole run
abbrev pub setting_in : Trust → Schedule → Setting
setting_in trust s = setting_of trust s.setup

-- the bytes of lines
abbrev pub lines_text : List Line → List ℕ
lines_text lines = flat_map text_of lines

-- the report of a schedule
abbrev pub report_text : Trust → Schedule → List ℕ
report_text trust s = lines_text (report_of trust s)

-- the one line of a refusal
abbrev pub refusal_text : Refused → List ℕ
refusal_text r = text_of (line.Refused r.line r.cause)
