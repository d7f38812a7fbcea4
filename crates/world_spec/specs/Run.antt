-- A whole run: its report, its journals and its sums. Source: this profile.
use Rattle.std.specs.Prelude.{ℕ, List, [], ◌∷◌, ◌++◌, map, length, sum_by, slice_get, Option, Some, None}
use Rattle.checkpoint_core.specs.declared.checkpoints.Checkpoint.{Checkpoint}
use Rattle.journal_core.specs.declared.records.Record.{Record}
use Rattle.schedule_text.specs.declared.words.Event.{Event}
use Rattle.schedule_text.specs.declared.words.Schedule.{Schedule}
use Rattle.report_text.specs.declared.lines.Line.{Line}
use Rattle.report_text.specs.declared.lines.Line.TheVariants as line
use Rattle.journal_core.specs.Records as journals
use Rattle.protocol_spec.specs.Chain.Keys.{currency_sum}
use Rattle.protocol_spec.specs.Member.Member.{Member, built, live_objects}
use Rattle.world_spec.specs.Setting.{Trust, Setting, setting_of}
use Rattle.world_spec.specs.World.{Seat, World, new_world, member_at}
use Rattle.world_spec.specs.Step.{happens}
use Rattle.world_spec.specs.Report.{lines_of}

-- the world after these lines
abbrev pub run : Setting → List Event → World → World
run s [] w = w
run s (e ∷ events) w = run s events (happens s w e)

-- the lines of the report, each event's after those of the one before
abbrev pub report_from : Setting → List Event → World → List Line
report_from s [] w = []
report_from s (e ∷ events) w = lines_of s w e ++ report_from s events (happens s w e)

unfoldable pub report : Setting → List Event → List Line
report s events = report_from s events (new_world s)

-- the world at the end of a run
unfoldable pub world_after : Setting → List Event → World
world_after s events = run s events (new_world s)

abbrev pub records_of : Option Seat → List Record
records_of None = []
records_of (Some seat) = seat.records

-- a member's journal: the encodings of its records
unfoldable pub journal : Setting → List Event → ℕ → List (List ℕ)
journal s events m = map journals.journal_record.spell (records_of (slice_get (world_after s events).seats m))

-- what a summary says of a member: the transactions in the checkpoints that it has built, the number of
-- these, its live objects, and their sum in currency 0
pub record Sums : Type 0 where
  pub transactions : ℕ
  pub checkpoints : ℕ
  pub objects : ℕ
  pub sum : ℕ

unfoldable pub sums_of : Member → Sums
sums_of m = record {
  transactions = sum_by (λ (c : Checkpoint). length c.items) (built m);
  checkpoints = length (built m);
  objects = length (live_objects m);
  sum = currency_sum (live_objects m) 0;
}

abbrev pub summary_line : ℕ → Option Member → List Line
summary_line n None = []
summary_line n (Some m) = line.Make n (sums_of m).transactions (sums_of m).checkpoints (sums_of m).objects (sums_of m).sum ∷ []

-- the summary of a run of the made schedule with this number
unfoldable pub summary : Setting → List Event → ℕ → List Line
summary s events n = summary_line n (member_at s (world_after s events) 0)

-- the report of a schedule
unfoldable pub report_of : Trust → Schedule → List Line
report_of trust schedule = report (setting_of trust schedule.setup) schedule.events
