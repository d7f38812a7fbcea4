-- What a `final by` line of the report stands for. Source: this profile (the report); Sui Lutris (finality).
use Rattle.std.specs.Prelude.{◌≡◌, ℕ, true, List, ◌∷◌, ◌++◌, Some, Ok}
use Rattle.digest_core.specs.declared.Digest.{Digest}
use Rattle.schedule_text.specs.declared.words.Event.{Event}
use Rattle.schedule_text.specs.declared.words.Event.TheVariants as event
use Rattle.schedule_text.specs.declared.words.Schedule.{Schedule}
use Rattle.schedule_text.specs.Schedule.{schedule_of}
use Rattle.report_text.specs.declared.lines.Line.{Line}
use Rattle.report_text.specs.declared.lines.Line.TheVariants as line
use Rattle.report_text.specs.declared.lines.FinalText.TheVariants as final_text
use Rattle.protocol_spec.specs.Chain.Words.{Has}
use Rattle.protocol_spec.specs.Chain.Committee.{is_roll}
use Rattle.world_spec.specs.Setting.{Name, Setting, Trust, setting_of}
use Rattle.world_spec.specs.World.{Made, World}
use Rattle.world_spec.specs.Names.{made_named}
use Rattle.world_spec.specs.Report.{lines_of}
use Rattle.world_spec.specs.Run.{report, report_of, world_after}
use Rattle.world_spec.specs.Assumptions.{IsFinal, IsHonestRun}
use Rattle.block_law.specs.Orderly.{AreApart}
use Rattle.headline_law.specs.Final.{StandsForGood}

-- `final T: final by ..`
abbrev pub final_by : Name → List ℕ → Line
final_by name members = line.Final name (final_text.FinalBy members)

-- the transaction of this name is final in this world by these members
pub record IsFinalHere (s : Setting) (w : World) (name : Name) (members : List ℕ) : Type 0 where
  pub made : Made
  pub named : made_named w name ≡ Some made
  pub effects : Digest
  pub final : IsFinal s w made.signed.tx.epoch made.digest effects members

-- in whatever world a `final` line says `final by`, the transaction is final by these members, if they ascend and are
-- known
abbrev pub PrintedIsFinal : Type 0
PrintedIsFinal = (s : Setting) (w : World) (name : Name) (asked members : List ℕ) → is_roll s.rules.stakes members ≡ true
    → Has (lines_of s w (event.Final name asked)) (final_by name members) → IsFinalHere s w name members

-- after a prefix of the run the transaction of this name was final by these members, and it stands for good
pub record WasFinal (s : Setting) (events : List Event) (name : Name) (members : List ℕ) : Type 0 where
  pub front : List Event
  pub back : List Event
  pub split : events ≡ front ++ (event.Final name members ∷ back)
  pub here : IsFinalHere s (world_after s front) name members
  pub stands : StandsForGood s events here.made.signed.tx.epoch here.made.digest here.effects

-- under the run assumptions, each `final by` line of the report whose members ascend and are known holds for good
abbrev pub ReportedStands : Type 0
ReportedStands = (s : Setting) (events : List Event) → IsHonestRun s events → AreApart s.opening
    → (name : Name) (members : List ℕ) → is_roll s.rules.stakes members ≡ true → Has (report s events) (final_by name members) → WasFinal s events name members

-- the same for the report of a schedule that a text says: its lines always name members that ascend and are known
abbrev pub ReadReportsHold : Type 0
ReadReportsHold = (text : List ℕ) (t : Schedule) → schedule_of text ≡ Ok t → (trust : Trust) → IsHonestRun (setting_of trust t.setup) t.events
    → (name : Name) (members : List ℕ) → Has (report_of trust t) (final_by name members) → WasFinal (setting_of trust t.setup) t.events name members
