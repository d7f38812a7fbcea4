-- A certificate that is ordered before its origin is admitted right after it.
use Rattle.std.specs.Prelude.{List, [], ◌∷◌, true, false, Some, None, codes}
use Rattle.schedule_text.specs.declared.words.Setup.{Setup}
use Rattle.schedule_text.specs.declared.words.Setup.TheVariants as setup
use Rattle.schedule_text.specs.declared.words.Event.{Event}
use Rattle.schedule_text.specs.declared.words.Event.TheVariants as event
use Rattle.schedule_text.specs.declared.words.ObjWord.TheVariants as object_word
use Rattle.schedule_text.specs.declared.words.InputWord.TheVariants as input_word
use Rattle.schedule_text.specs.declared.words.ArgWord.TheVariants as arg_word
use Rattle.schedule_text.specs.declared.words.CommandWord.TheVariants as command_word
use Rattle.report_text.specs.declared.lines.Line.{Line}
use Rattle.report_text.specs.declared.lines.Line.TheVariants as line
use Rattle.report_text.specs.declared.lines.VoteText.TheVariants as vote_text
use Rattle.report_text.specs.declared.lines.CertText.TheVariants as cert_text
use Rattle.report_text.specs.declared.lines.SendText.TheVariants as send_text
use Rattle.report_text.specs.declared.lines.OrderText.TheVariants as order_text
use Rattle.report_text.specs.declared.lines.EntryText.TheVariants as entry_text
use Rattle.report_text.specs.declared.lines.RunText.TheVariants as run_text
use Rattle.rows_law.specs.Reported.{Reports}

abbrev pub lines : List Setup
lines =
    setup.Member 1 true ∷
    setup.Member 1 true ∷
    setup.Member 1 true ∷
    setup.Member 1 true ∷
    setup.Coin (codes "g0") (codes "alice") 10000 ∷ []

abbrev pub events : List Event
events =
    event.Tx (codes "t1") (codes "alice") false 0 (record { object = (object_word.Setup (codes "g0")); version = 1; spoiled = false }) 2000 (input_word.Number 5000 ∷ input_word.Address (codes "bob") ∷ []) (command_word.Split (arg_word.Gas ∷ arg_word.Input 0 ∷ []) ∷ command_word.Transfer (arg_word.Result 0 ∷ arg_word.Input 1 ∷ []) ∷ []) ∷
    event.Vote 0 (codes "t1") ∷
    event.Vote 1 (codes "t1") ∷
    event.Vote 2 (codes "t1") ∷
    event.Cert (codes "t1") (0 ∷ 1 ∷ 2 ∷ []) ∷
    event.Send 0 (codes "t1") ∷
    event.Run 0 1 ∷
    event.Send 1 (codes "t1") ∷
    event.Run 1 1 ∷
    event.Send 2 (codes "t1") ∷
    event.Run 2 1 ∷
    event.Tx (codes "t2") (codes "bob") false 0 (record { object = (object_word.Created (codes "t1") 0); version = 2; spoiled = false }) 2000 (input_word.Address (codes "alice") ∷ []) (command_word.Transfer (arg_word.Gas ∷ arg_word.Input 0 ∷ []) ∷ []) ∷
    event.Vote 0 (codes "t2") ∷
    event.Vote 1 (codes "t2") ∷
    event.Vote 2 (codes "t2") ∷
    event.Cert (codes "t2") (0 ∷ 1 ∷ 2 ∷ []) ∷
    event.Order (codes "t2") ∷
    event.Order (codes "t1") ∷
    event.See 0 2 ∷ []

abbrev pub report : List Line
report =
    line.TxMade (codes "t1") ∷
    line.Vote 0 (codes "t1") (vote_text.Voted (None ∷ [])) ∷
    line.Vote 1 (codes "t1") (vote_text.Voted (None ∷ [])) ∷
    line.Vote 2 (codes "t1") (vote_text.Voted (None ∷ [])) ∷
    line.Cert (codes "t1") (cert_text.Formed (0 ∷ 1 ∷ 2 ∷ [])) ∷
    line.Send 0 (codes "t1") send_text.Held ∷
    line.Run 0 (run_text.Executed 1) ∷
    line.Done (codes "t1") 2 1200 ∷
    line.Send 1 (codes "t1") send_text.Held ∷
    line.Run 1 (run_text.Executed 1) ∷
    line.Done (codes "t1") 2 1200 ∷
    line.Send 2 (codes "t1") send_text.Held ∷
    line.Run 2 (run_text.Executed 1) ∷
    line.Done (codes "t1") 2 1200 ∷
    line.TxMade (codes "t2") ∷
    line.Vote 0 (codes "t2") (vote_text.Voted (Some (codes "t1") ∷ [])) ∷
    line.Vote 1 (codes "t2") (vote_text.Voted (Some (codes "t1") ∷ [])) ∷
    line.Vote 2 (codes "t2") (vote_text.Voted (Some (codes "t1") ∷ [])) ∷
    line.Cert (codes "t2") (cert_text.Formed (0 ∷ 1 ∷ 2 ∷ [])) ∷
    line.Order (codes "t2") (order_text.Entry 0) ∷
    line.Order (codes "t1") (order_text.Entry 1) ∷
    line.SeeEntry 0 0 (entry_text.Pending (codes "t2") (codes "t1")) ∷
    line.SeeEntry 0 1 (entry_text.Taken ((codes "t1") ∷ (codes "t2") ∷ []) []) ∷ []

abbrev pub AdmissionWaitsForOrigins : Type 0
AdmissionWaitsForOrigins = Reports lines events report
