-- A member closes before it states its End, and an End is counted once.
use Rattle.std.specs.Prelude.{List, [], ◌∷◌, true, false, codes}
use Rattle.schedule_text.specs.declared.words.Setup.{Setup}
use Rattle.schedule_text.specs.declared.words.Setup.TheVariants as setup
use Rattle.schedule_text.specs.declared.words.Event.{Event}
use Rattle.schedule_text.specs.declared.words.Event.TheVariants as event
use Rattle.report_text.specs.declared.lines.Line.{Line}
use Rattle.report_text.specs.declared.lines.Line.TheVariants as line
use Rattle.report_text.specs.declared.lines.OrderEndText.TheVariants as order_end_text
use Rattle.report_text.specs.declared.lines.EntryText.TheVariants as entry_text
use Rattle.report_text.specs.declared.lines.CloseText.TheVariants as close_text
use Rattle.report_text.specs.declared.lines.EndText.TheVariants as end_text
use Rattle.report_text.specs.declared.lines.TurnText.TheVariants as turn_text
use Rattle.rows_law.specs.Reported.{Reports}

abbrev pub lines : List Setup
lines =
    setup.Member 1 true ∷
    setup.Member 1 true ∷
    setup.Member 1 true ∷
    setup.Member 1 true ∷
    setup.Coin (codes "g0") (codes "alice") 10000 ∷ []

abbrev pub events : List Event
events =
    event.End 0 ∷
    event.Close 0 ∷
    event.Close 0 ∷
    event.End 0 ∷
    event.Close 1 ∷
    event.End 1 ∷
    event.OrderEnd 0 ∷
    event.OrderEnd 1 ∷
    event.OrderEnd 1 ∷
    event.See 0 3 ∷
    event.Turn 0 ∷ []

abbrev pub report : List Line
report =
    line.End 0 end_text.NotClosed ∷
    line.Close 0 close_text.Closed ∷
    line.Close 0 close_text.Again ∷
    line.End 0 end_text.Said ∷
    line.Close 1 close_text.Closed ∷
    line.End 1 end_text.Said ∷
    line.OrderEnd 0 (order_end_text.Entry 0) ∷
    line.OrderEnd 1 (order_end_text.Entry 1) ∷
    line.OrderEnd 1 (order_end_text.Entry 2) ∷
    line.SeeEntry 0 0 (entry_text.EndOf 0 1 4 false) ∷
    line.SeeEntry 0 1 (entry_text.EndOf 1 2 4 false) ∷
    line.SeeEntry 0 2 entry_text.IgnoredRepeat ∷
    line.Turn 0 turn_text.NotEnded ∷ []

abbrev pub AnEndNeedsAClose : Type 0
AnEndNeedsAClose = Reports lines events report
