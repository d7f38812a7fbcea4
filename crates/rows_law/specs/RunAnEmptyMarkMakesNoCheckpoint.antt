-- A mark with nothing admitted since the last one cuts nothing.
use Rattle.std.specs.Prelude.{List, [], ◌∷◌, true, codes}
use Rattle.schedule_text.specs.declared.words.Setup.{Setup}
use Rattle.schedule_text.specs.declared.words.Setup.TheVariants as setup
use Rattle.schedule_text.specs.declared.words.Event.{Event}
use Rattle.schedule_text.specs.declared.words.Event.TheVariants as event
use Rattle.report_text.specs.declared.lines.Line.{Line}
use Rattle.report_text.specs.declared.lines.Line.TheVariants as line
use Rattle.report_text.specs.declared.lines.EntryText.TheVariants as entry_text
use Rattle.rows_law.specs.Reported.{Reports}

abbrev pub lines : List Setup
lines =
    setup.Member 1 true ∷
    setup.Member 1 true ∷
    setup.Member 1 true ∷
    setup.Member 1 true ∷
    setup.Coin (codes "g0") (codes "alice") 10000 ∷ []

abbrev pub events : List Event
events =
    event.OrderCommit ∷
    event.See 0 1 ∷ []

abbrev pub report : List Line
report =
    line.OrderCommit 0 ∷
    line.SeeEntry 0 0 (entry_text.Commit [] []) ∷ []

abbrev pub AnEmptyMarkMakesNoCheckpoint : Type 0
AnEmptyMarkMakesNoCheckpoint = Reports lines events report
