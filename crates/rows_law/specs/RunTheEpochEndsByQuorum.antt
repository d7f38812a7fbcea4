-- A transaction is taken once, and the End of the third of four members ends the epoch.
use Rattle.std.specs.Prelude.{List, [], ◌∷◌, true, false, None, codes}
use Rattle.schedule_text.specs.declared.words.Setup.{Setup}
use Rattle.schedule_text.specs.declared.words.Setup.TheVariants as setup
use Rattle.schedule_text.specs.declared.words.Event.{Event}
use Rattle.schedule_text.specs.declared.words.Event.TheVariants as event
use Rattle.schedule_text.specs.declared.words.ObjWord.TheVariants as object_word
use Rattle.schedule_text.specs.declared.words.InputWord.TheVariants as input_word
use Rattle.schedule_text.specs.declared.words.ArgWord.TheVariants as arg_word
use Rattle.schedule_text.specs.declared.words.CommandWord.TheVariants as command_word
use Rattle.report_text.specs.declared.lines.Line.{Line}
use Rattle.report_text.specs.declared.lines.Line.TheVariants as line
use Rattle.report_text.specs.declared.lines.VoteText.TheVariants as vote_text
use Rattle.report_text.specs.declared.lines.CertText.TheVariants as cert_text
use Rattle.report_text.specs.declared.lines.OrderText.TheVariants as order_text
use Rattle.report_text.specs.declared.lines.OrderEndText.TheVariants as order_end_text
use Rattle.report_text.specs.declared.lines.EntryText.TheVariants as entry_text
use Rattle.report_text.specs.declared.lines.RunText.TheVariants as run_text
use Rattle.report_text.specs.declared.lines.CloseText.TheVariants as close_text
use Rattle.report_text.specs.declared.lines.EndText.TheVariants as end_text
use Rattle.rows_law.specs.Reported.{Reports}

abbrev pub lines : List Setup
lines =
    setup.Member 1 true ∷
    setup.Member 1 true ∷
    setup.Member 1 true ∷
    setup.Member 1 true ∷
    setup.Coin (codes "g0") (codes "alice") 10000 ∷
    setup.Coin (codes "g1") (codes "alice") 10000 ∷ []

abbrev pub events : List Event
events =
    event.Tx (codes "t1") (codes "alice") false 0 (record { object = (object_word.Setup (codes "g0")); version = 1; spoiled = false }) 2000 (input_word.Number 500 ∷ input_word.Address (codes "bob") ∷ []) (command_word.Split (arg_word.Gas ∷ arg_word.Input 0 ∷ []) ∷ command_word.Transfer (arg_word.Result 0 ∷ arg_word.Input 1 ∷ []) ∷ []) ∷
    event.Tx (codes "t2") (codes "alice") false 0 (record { object = (object_word.Setup (codes "g1")); version = 1; spoiled = false }) 2000 (input_word.Address (codes "bob") ∷ []) (command_word.Transfer (arg_word.Gas ∷ arg_word.Input 0 ∷ []) ∷ []) ∷
    event.Vote 0 (codes "t1") ∷
    event.Vote 1 (codes "t1") ∷
    event.Vote 2 (codes "t1") ∷
    event.Cert (codes "t1") (0 ∷ 1 ∷ 2 ∷ []) ∷
    event.Vote 0 (codes "t2") ∷
    event.Vote 1 (codes "t2") ∷
    event.Vote 2 (codes "t2") ∷
    event.Cert (codes "t2") (0 ∷ 1 ∷ 2 ∷ []) ∷
    event.Order (codes "t1") ∷
    event.Order (codes "t1") ∷
    event.See 0 2 ∷
    event.Run 0 1 ∷
    event.Close 0 ∷
    event.End 0 ∷
    event.OrderEnd 0 ∷
    event.Close 1 ∷
    event.End 1 ∷
    event.OrderEnd 1 ∷
    event.Close 2 ∷
    event.End 2 ∷
    event.OrderEnd 2 ∷
    event.Order (codes "t2") ∷
    event.See 0 9 ∷ []

abbrev pub report : List Line
report =
    line.TxMade (codes "t1") ∷
    line.TxMade (codes "t2") ∷
    line.Vote 0 (codes "t1") (vote_text.Voted (None ∷ [])) ∷
    line.Vote 1 (codes "t1") (vote_text.Voted (None ∷ [])) ∷
    line.Vote 2 (codes "t1") (vote_text.Voted (None ∷ [])) ∷
    line.Cert (codes "t1") (cert_text.Formed (0 ∷ 1 ∷ 2 ∷ [])) ∷
    line.Vote 0 (codes "t2") (vote_text.Voted (None ∷ [])) ∷
    line.Vote 1 (codes "t2") (vote_text.Voted (None ∷ [])) ∷
    line.Vote 2 (codes "t2") (vote_text.Voted (None ∷ [])) ∷
    line.Cert (codes "t2") (cert_text.Formed (0 ∷ 1 ∷ 2 ∷ [])) ∷
    line.Order (codes "t1") (order_text.Entry 0) ∷
    line.Order (codes "t1") (order_text.Entry 1) ∷
    line.SeeEntry 0 0 (entry_text.Taken ((codes "t1") ∷ []) []) ∷
    line.SeeEntry 0 1 entry_text.IgnoredRepeat ∷
    line.Run 0 (run_text.Executed 1) ∷
    line.Done (codes "t1") 2 1200 ∷
    line.Close 0 close_text.Closed ∷
    line.End 0 end_text.Said ∷
    line.OrderEnd 0 (order_end_text.Entry 2) ∷
    line.Close 1 close_text.Closed ∷
    line.End 1 end_text.Said ∷
    line.OrderEnd 1 (order_end_text.Entry 3) ∷
    line.Close 2 close_text.Closed ∷
    line.End 2 end_text.Said ∷
    line.OrderEnd 2 (order_end_text.Entry 4) ∷
    line.Order (codes "t2") order_text.NotTaken ∷
    line.SeeEntry 0 2 (entry_text.EndOf 0 1 4 false) ∷
    line.SeeEntry 0 3 (entry_text.EndOf 1 2 4 false) ∷
    line.SeeEntry 0 4 (entry_text.EndOf 2 3 4 true) ∷
    line.Checkpoint 0 ((codes "t1") ∷ []) true ∷ []

abbrev pub TheEpochEndsByQuorum : Type 0
TheEpochEndsByQuorum = Reports lines events report
