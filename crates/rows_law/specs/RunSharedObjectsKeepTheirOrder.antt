-- A reader that is executed last still reads the version that admission assigned to it.
use Rattle.std.specs.Prelude.{List, [], ◌∷◌, true, false, None, codes}
use Rattle.schedule_text.specs.declared.words.Setup.{Setup}
use Rattle.schedule_text.specs.declared.words.Setup.TheVariants as setup
use Rattle.schedule_text.specs.declared.words.Event.{Event}
use Rattle.schedule_text.specs.declared.words.Event.TheVariants as event
use Rattle.schedule_text.specs.declared.words.ObjWord.TheVariants as object_word
use Rattle.schedule_text.specs.declared.words.InputWord.TheVariants as input_word
use Rattle.schedule_text.specs.declared.words.ArgWord.TheVariants as arg_word
use Rattle.schedule_text.specs.declared.words.CommandWord.TheVariants as command_word
use Rattle.report_text.specs.declared.lines.Line.{Line}
use Rattle.report_text.specs.declared.lines.Line.TheVariants as line
use Rattle.report_text.specs.declared.lines.VoteText.TheVariants as vote_text
use Rattle.report_text.specs.declared.lines.CertText.TheVariants as cert_text
use Rattle.report_text.specs.declared.lines.SendText.TheVariants as send_text
use Rattle.report_text.specs.declared.lines.OrderText.TheVariants as order_text
use Rattle.report_text.specs.declared.lines.EntryText.TheVariants as entry_text
use Rattle.report_text.specs.declared.lines.RunText.TheVariants as run_text
use Rattle.report_text.specs.declared.lines.ShowText.TheVariants as show_text
use Rattle.report_text.specs.declared.lines.OwnerText.TheVariants as owner_text
use Rattle.report_text.specs.declared.lines.ContentText.TheVariants as content_text
use Rattle.rows_law.specs.Reported.{Reports}

abbrev pub lines : List Setup
lines =
    setup.Member 1 true ∷
    setup.Member 1 true ∷
    setup.Member 1 true ∷
    setup.Member 1 true ∷
    setup.Coin (codes "g0") (codes "alice") 10000 ∷
    setup.Coin (codes "g1") (codes "alice") 10000 ∷
    setup.Coin (codes "g2") (codes "alice") 10000 ∷
    setup.Counter (codes "c0") 5 ∷ []

abbrev pub events : List Event
events =
    event.Tx (codes "t1") (codes "alice") false 0 (record { object = (object_word.Setup (codes "g0")); version = 1; spoiled = false }) 2000 (input_word.Number 10 ∷ input_word.Shared (object_word.Setup (codes "c0")) 1 true ∷ []) (command_word.Call 5 (arg_word.Input 1 ∷ arg_word.Input 0 ∷ []) ∷ []) ∷
    event.Tx (codes "t2") (codes "alice") false 0 (record { object = (object_word.Setup (codes "g1")); version = 1; spoiled = false }) 2000 (input_word.Number 16 ∷ input_word.Shared (object_word.Setup (codes "c0")) 1 false ∷ []) (command_word.Call 6 (arg_word.Input 1 ∷ arg_word.Input 0 ∷ []) ∷ []) ∷
    event.Tx (codes "t3") (codes "alice") false 0 (record { object = (object_word.Setup (codes "g2")); version = 1; spoiled = false }) 2000 (input_word.Number 1 ∷ input_word.Shared (object_word.Setup (codes "c0")) 1 true ∷ []) (command_word.Call 5 (arg_word.Input 1 ∷ arg_word.Input 0 ∷ []) ∷ []) ∷
    event.Vote 0 (codes "t1") ∷
    event.Vote 1 (codes "t1") ∷
    event.Vote 2 (codes "t1") ∷
    event.Cert (codes "t1") (0 ∷ 1 ∷ 2 ∷ []) ∷
    event.Vote 0 (codes "t2") ∷
    event.Vote 1 (codes "t2") ∷
    event.Vote 2 (codes "t2") ∷
    event.Cert (codes "t2") (0 ∷ 1 ∷ 2 ∷ []) ∷
    event.Vote 0 (codes "t3") ∷
    event.Vote 1 (codes "t3") ∷
    event.Vote 2 (codes "t3") ∷
    event.Cert (codes "t3") (0 ∷ 1 ∷ 2 ∷ []) ∷
    event.Send 0 (codes "t1") ∷
    event.Send 0 (codes "t3") ∷
    event.Send 0 (codes "t2") ∷
    event.Order (codes "t1") ∷
    event.Order (codes "t2") ∷
    event.Order (codes "t3") ∷
    event.OrderCommit ∷
    event.See 0 4 ∷
    event.Run 0 4 ∷
    event.Show 0 ∷ []

abbrev pub report : List Line
report =
    line.TxMade (codes "t1") ∷
    line.TxMade (codes "t2") ∷
    line.TxMade (codes "t3") ∷
    line.Vote 0 (codes "t1") (vote_text.Voted (None ∷ None ∷ [])) ∷
    line.Vote 1 (codes "t1") (vote_text.Voted (None ∷ None ∷ [])) ∷
    line.Vote 2 (codes "t1") (vote_text.Voted (None ∷ None ∷ [])) ∷
    line.Cert (codes "t1") (cert_text.Formed (0 ∷ 1 ∷ 2 ∷ [])) ∷
    line.Vote 0 (codes "t2") (vote_text.Voted (None ∷ None ∷ [])) ∷
    line.Vote 1 (codes "t2") (vote_text.Voted (None ∷ None ∷ [])) ∷
    line.Vote 2 (codes "t2") (vote_text.Voted (None ∷ None ∷ [])) ∷
    line.Cert (codes "t2") (cert_text.Formed (0 ∷ 1 ∷ 2 ∷ [])) ∷
    line.Vote 0 (codes "t3") (vote_text.Voted (None ∷ None ∷ [])) ∷
    line.Vote 1 (codes "t3") (vote_text.Voted (None ∷ None ∷ [])) ∷
    line.Vote 2 (codes "t3") (vote_text.Voted (None ∷ None ∷ [])) ∷
    line.Cert (codes "t3") (cert_text.Formed (0 ∷ 1 ∷ 2 ∷ [])) ∷
    line.Send 0 (codes "t1") send_text.Held ∷
    line.Send 0 (codes "t3") send_text.Held ∷
    line.Send 0 (codes "t2") send_text.Held ∷
    line.Order (codes "t1") (order_text.Entry 0) ∷
    line.Order (codes "t2") (order_text.Entry 1) ∷
    line.Order (codes "t3") (order_text.Entry 2) ∷
    line.OrderCommit 3 ∷
    line.SeeEntry 0 0 (entry_text.Taken ((codes "t1") ∷ []) []) ∷
    line.SeeEntry 0 1 (entry_text.Taken ((codes "t2") ∷ []) []) ∷
    line.SeeEntry 0 2 (entry_text.Taken ((codes "t3") ∷ []) []) ∷
    line.SeeEntry 0 3 (entry_text.Commit [] []) ∷
    line.Run 0 (run_text.Executed 3) ∷
    line.Done (codes "t1") 2 1100 ∷
    line.Done (codes "t3") 3 1100 ∷
    line.Aborted (codes "t2") 0 1 3 1100 ∷
    line.Checkpoint 0 ((codes "t1") ∷ (codes "t2") ∷ (codes "t3") ∷ []) false ∷
    line.Show 0 (show_text.Shown 0 4) ∷
    line.Object (codes "g0") 2 (owner_text.Address (codes "alice")) (content_text.Coin 0 8900) ∷
    line.Object (codes "g1") 3 (owner_text.Address (codes "alice")) (content_text.Coin 0 8900) ∷
    line.Object (codes "g2") 3 (owner_text.Address (codes "alice")) (content_text.Coin 0 8900) ∷
    line.Object (codes "c0") 3 (owner_text.Shared 1) (content_text.Counter 16) ∷ []

abbrev pub SharedObjectsKeepTheirOrder : Type 0
SharedObjectsKeepTheirOrder = Reports lines events report
