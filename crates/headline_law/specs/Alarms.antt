-- The lines of a report that no honest run gives. Source: this profile (the report); Sui Lutris (no two certificates
-- consume one version, and what was certified can be executed).
use Rattle.std.specs.Prelude.{◌≡◌, Bool, true, false, List}
use Rattle.schedule_text.specs.declared.words.Event.{Event}
use Rattle.report_text.specs.declared.lines.Line.{Line}
use Rattle.report_text.specs.declared.lines.Line.TheVariants as line
use Rattle.report_text.specs.declared.lines.VoteText.{VoteText}
use Rattle.report_text.specs.declared.lines.VoteText.TheVariants as vote_text
use Rattle.report_text.specs.declared.lines.SendText.{SendText}
use Rattle.report_text.specs.declared.lines.SendText.TheVariants as send_text
use Rattle.report_text.specs.declared.lines.SeeText.{SeeText}
use Rattle.report_text.specs.declared.lines.SeeText.TheVariants as see_text
use Rattle.report_text.specs.declared.lines.EntryText.{EntryText}
use Rattle.report_text.specs.declared.lines.EntryText.TheVariants as entry_text
use Rattle.report_text.specs.declared.lines.RunText.{RunText}
use Rattle.report_text.specs.declared.lines.RunText.TheVariants as run_text
use Rattle.report_text.specs.declared.lines.CloseText.{CloseText}
use Rattle.report_text.specs.declared.lines.CloseText.TheVariants as close_text
use Rattle.report_text.specs.declared.lines.EndText.{EndText}
use Rattle.report_text.specs.declared.lines.EndText.TheVariants as end_text
use Rattle.report_text.specs.declared.lines.TurnText.{TurnText}
use Rattle.report_text.specs.declared.lines.TurnText.TheVariants as turn_text
use Rattle.report_text.specs.declared.lines.RestartText.{RestartText}
use Rattle.report_text.specs.declared.lines.RestartText.TheVariants as restart_text
use Rattle.report_text.specs.declared.lines.AckText.{AckText}
use Rattle.report_text.specs.declared.lines.AckText.TheVariants as ack_text
use Rattle.protocol_spec.specs.Chain.Words.{Has}
use Rattle.world_spec.specs.Setting.{Setting}
use Rattle.world_spec.specs.Run.{report}
use Rattle.world_spec.specs.Assumptions.{IsHonestRun}
use Rattle.block_law.specs.Orderly.{AreApart}

-- whether a text is `fork K T1 T2` (a member meets two certificates that consume one version) or `halted T1 T2` (it
-- met them before); one function for each kind of text
abbrev pub halts_vote : VoteText → Bool
halts_vote (vote_text.Halted first second) = true
halts_vote text = false

abbrev pub halts_send : SendText → Bool
halts_send (send_text.Fork key first second) = true
halts_send (send_text.Halted first second) = true
halts_send text = false

abbrev pub halts_see : SeeText → Bool
halts_see (see_text.Halted first second) = true
halts_see text = false

abbrev pub halts_entry : EntryText → Bool
halts_entry (entry_text.Fork key first second) = true
halts_entry text = false

abbrev pub halts_run : RunText → Bool
halts_run (run_text.Halted first second) = true
halts_run text = false

abbrev pub halts_close : CloseText → Bool
halts_close (close_text.Halted first second) = true
halts_close text = false

abbrev pub halts_end : EndText → Bool
halts_end (end_text.Halted first second) = true
halts_end text = false

abbrev pub halts_turn : TurnText → Bool
halts_turn (turn_text.Halted first second) = true
halts_turn text = false

abbrev pub halts_ack : AckText → Bool
halts_ack (ack_text.Halted first second) = true
halts_ack text = false

-- `bad record N`, at a restart
abbrev pub is_bad : RestartText → Bool
is_bad (restart_text.BadRecord place) = true
is_bad text = false

-- whether a line says that a member meets two such certificates or met them; that a run left a version absent although its
-- maker was executed, or objects that do not fit; or that a record that was read back is bad
abbrev pub is_alarm : Line → Bool
is_alarm (line.Vote m tx text) = halts_vote text
is_alarm (line.RawVote m text) = halts_vote text
is_alarm (line.Send m tx text) = halts_send text
is_alarm (line.RawHold m text) = halts_send text
is_alarm (line.See m text) = halts_see text
is_alarm (line.SeeEntry m entry text) = halts_entry text
is_alarm (line.Run m text) = halts_run text
is_alarm (line.Absent tx key) = true
is_alarm (line.Unfit tx) = true
is_alarm (line.Close m text) = halts_close text
is_alarm (line.End m text) = halts_end text
is_alarm (line.Turn m text) = halts_turn text
is_alarm (line.Ack m tx text) = halts_ack text
is_alarm (line.Restart m text) = is_bad text
is_alarm l = false

-- no line of the report is an alarm
abbrev pub IsCalm : Setting → List Event → Type 0
IsCalm s events = (l : Line) → Has (report s events) l → is_alarm l ≡ false

-- under the run assumptions no line of a report is an alarm
abbrev pub ReportsAreCalm : Type 0
ReportsAreCalm = (s : Setting) (events : List Event) → IsHonestRun s events → AreApart s.opening → IsCalm s events
