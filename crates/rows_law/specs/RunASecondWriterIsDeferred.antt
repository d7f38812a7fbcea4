-- With one writer for each object and commit, the second is admitted after the mark, or never.
use Rattle.std.specs.Prelude.{List, [], ◌∷◌, true, false, None, codes}
use Rattle.schedule_text.specs.declared.words.Setup.{Setup}
use Rattle.schedule_text.specs.declared.words.Setup.TheVariants as setup
use Rattle.schedule_text.specs.declared.words.Event.{Event}
use Rattle.schedule_text.specs.declared.words.Event.TheVariants as event
use Rattle.schedule_text.specs.declared.words.ObjWord.TheVariants as object_word
use Rattle.schedule_text.specs.declared.words.InputWord.TheVariants as input_word
use Rattle.schedule_text.specs.declared.words.ArgWord.TheVariants as arg_word
use Rattle.schedule_text.specs.declared.words.CommandWord.TheVariants as command_word
use Rattle.report_text.specs.declared.lines.Line.{Line}
use Rattle.report_text.specs.declared.lines.Line.TheVariants as line
use Rattle.report_text.specs.declared.lines.VoteText.TheVariants as vote_text
use Rattle.report_text.specs.declared.lines.CertText.TheVariants as cert_text
use Rattle.report_text.specs.declared.lines.OrderText.TheVariants as order_text
use Rattle.report_text.specs.declared.lines.OrderEndText.TheVariants as order_end_text
use Rattle.report_text.specs.declared.lines.EntryText.TheVariants as entry_text
use Rattle.report_text.specs.declared.lines.RunText.TheVariants as run_text
use Rattle.report_text.specs.declared.lines.CloseText.TheVariants as close_text
use Rattle.report_text.specs.declared.lines.EndText.TheVariants as end_text
use Rattle.report_text.specs.declared.lines.TurnText.TheVariants as turn_text
use Rattle.rows_law.specs.Reported.{Reports}

abbrev pub behind_the_mark_lines : List Setup
behind_the_mark_lines =
    setup.Member 1 true ∷
    setup.Member 1 true ∷
    setup.Member 1 true ∷
    setup.Member 1 true ∷
    setup.Coin (codes "g0") (codes "alice") 10000 ∷
    setup.Coin (codes "g1") (codes "alice") 10000 ∷
    setup.Coin (codes "g2") (codes "alice") 10000 ∷
    setup.Counter (codes "c0") 5 ∷
    setup.Writers 1 ∷ []

abbrev pub behind_the_mark_events : List Event
behind_the_mark_events =
    event.Tx (codes "t1") (codes "alice") false 0 (record { object = (object_word.Setup (codes "g0")); version = 1; spoiled = false }) 2000 (input_word.Number 10 ∷ input_word.Shared (object_word.Setup (codes "c0")) 1 true ∷ []) (command_word.Call 5 (arg_word.Input 1 ∷ arg_word.Input 0 ∷ []) ∷ []) ∷
    event.Tx (codes "t2") (codes "alice") false 0 (record { object = (object_word.Setup (codes "g1")); version = 1; spoiled = false }) 2000 (input_word.Number 1 ∷ input_word.Shared (object_word.Setup (codes "c0")) 1 true ∷ []) (command_word.Call 5 (arg_word.Input 1 ∷ arg_word.Input 0 ∷ []) ∷ []) ∷
    event.Tx (codes "t3") (codes "alice") false 0 (record { object = (object_word.Setup (codes "g2")); version = 1; spoiled = false }) 2000 (input_word.Number 15 ∷ input_word.Shared (object_word.Setup (codes "c0")) 1 false ∷ []) (command_word.Call 6 (arg_word.Input 1 ∷ arg_word.Input 0 ∷ []) ∷ []) ∷
    event.Vote 0 (codes "t1") ∷
    event.Vote 1 (codes "t1") ∷
    event.Vote 2 (codes "t1") ∷
    event.Cert (codes "t1") (0 ∷ 1 ∷ 2 ∷ []) ∷
    event.Vote 0 (codes "t2") ∷
    event.Vote 1 (codes "t2") ∷
    event.Vote 2 (codes "t2") ∷
    event.Cert (codes "t2") (0 ∷ 1 ∷ 2 ∷ []) ∷
    event.Vote 0 (codes "t3") ∷
    event.Vote 1 (codes "t3") ∷
    event.Vote 2 (codes "t3") ∷
    event.Cert (codes "t3") (0 ∷ 1 ∷ 2 ∷ []) ∷
    event.Order (codes "t1") ∷
    event.Order (codes "t2") ∷
    event.Order (codes "t3") ∷
    event.OrderCommit ∷
    event.OrderCommit ∷
    event.See 0 5 ∷
    event.Run 0 4 ∷ []

abbrev pub behind_the_mark_report : List Line
behind_the_mark_report =
    line.TxMade (codes "t1") ∷
    line.TxMade (codes "t2") ∷
    line.TxMade (codes "t3") ∷
    line.Vote 0 (codes "t1") (vote_text.Voted (None ∷ None ∷ [])) ∷
    line.Vote 1 (codes "t1") (vote_text.Voted (None ∷ None ∷ [])) ∷
    line.Vote 2 (codes "t1") (vote_text.Voted (None ∷ None ∷ [])) ∷
    line.Cert (codes "t1") (cert_text.Formed (0 ∷ 1 ∷ 2 ∷ [])) ∷
    line.Vote 0 (codes "t2") (vote_text.Voted (None ∷ None ∷ [])) ∷
    line.Vote 1 (codes "t2") (vote_text.Voted (None ∷ None ∷ [])) ∷
    line.Vote 2 (codes "t2") (vote_text.Voted (None ∷ None ∷ [])) ∷
    line.Cert (codes "t2") (cert_text.Formed (0 ∷ 1 ∷ 2 ∷ [])) ∷
    line.Vote 0 (codes "t3") (vote_text.Voted (None ∷ None ∷ [])) ∷
    line.Vote 1 (codes "t3") (vote_text.Voted (None ∷ None ∷ [])) ∷
    line.Vote 2 (codes "t3") (vote_text.Voted (None ∷ None ∷ [])) ∷
    line.Cert (codes "t3") (cert_text.Formed (0 ∷ 1 ∷ 2 ∷ [])) ∷
    line.Order (codes "t1") (order_text.Entry 0) ∷
    line.Order (codes "t2") (order_text.Entry 1) ∷
    line.Order (codes "t3") (order_text.Entry 2) ∷
    line.OrderCommit 3 ∷
    line.OrderCommit 4 ∷
    line.SeeEntry 0 0 (entry_text.Taken ((codes "t1") ∷ []) []) ∷
    line.SeeEntry 0 1 (entry_text.Deferred (codes "t2") (codes "c0")) ∷
    line.SeeEntry 0 2 (entry_text.Taken ((codes "t3") ∷ []) []) ∷
    line.SeeEntry 0 3 (entry_text.Commit ((codes "t2") ∷ []) []) ∷
    line.SeeEntry 0 4 (entry_text.Commit [] []) ∷
    line.Run 0 (run_text.Executed 3) ∷
    line.Done (codes "t1") 2 1100 ∷
    line.Done (codes "t2") 3 1100 ∷
    line.Done (codes "t3") 3 1100 ∷
    line.Checkpoint 0 ((codes "t1") ∷ (codes "t3") ∷ []) false ∷
    line.Checkpoint 1 ((codes "t2") ∷ []) false ∷ []

abbrev pub at_the_end_lines : List Setup
at_the_end_lines =
    setup.Member 1 true ∷
    setup.Member 1 true ∷
    setup.Member 1 true ∷
    setup.Member 1 true ∷
    setup.Coin (codes "g0") (codes "alice") 10000 ∷
    setup.Coin (codes "g1") (codes "alice") 10000 ∷
    setup.Coin (codes "g2") (codes "alice") 10000 ∷
    setup.Counter (codes "c0") 5 ∷
    setup.Writers 1 ∷ []

abbrev pub at_the_end_events : List Event
at_the_end_events =
    event.Tx (codes "t1") (codes "alice") false 0 (record { object = (object_word.Setup (codes "g0")); version = 1; spoiled = false }) 2000 (input_word.Number 10 ∷ input_word.Shared (object_word.Setup (codes "c0")) 1 true ∷ []) (command_word.Call 5 (arg_word.Input 1 ∷ arg_word.Input 0 ∷ []) ∷ []) ∷
    event.Tx (codes "t2") (codes "alice") false 0 (record { object = (object_word.Setup (codes "g1")); version = 1; spoiled = false }) 2000 (input_word.Number 1 ∷ input_word.Shared (object_word.Setup (codes "c0")) 1 true ∷ []) (command_word.Call 5 (arg_word.Input 1 ∷ arg_word.Input 0 ∷ []) ∷ []) ∷
    event.Vote 0 (codes "t1") ∷
    event.Vote 1 (codes "t1") ∷
    event.Vote 2 (codes "t1") ∷
    event.Cert (codes "t1") (0 ∷ 1 ∷ 2 ∷ []) ∷
    event.Vote 0 (codes "t2") ∷
    event.Vote 1 (codes "t2") ∷
    event.Vote 2 (codes "t2") ∷
    event.Cert (codes "t2") (0 ∷ 1 ∷ 2 ∷ []) ∷
    event.Order (codes "t1") ∷
    event.Order (codes "t2") ∷
    event.See 0 2 ∷
    event.Run 0 1 ∷
    event.Close 1 ∷
    event.End 1 ∷
    event.OrderEnd 1 ∷
    event.Close 2 ∷
    event.End 2 ∷
    event.OrderEnd 2 ∷
    event.Close 3 ∷
    event.End 3 ∷
    event.OrderEnd 3 ∷
    event.See 0 3 ∷
    event.Turn 0 ∷ []

abbrev pub at_the_end_report : List Line
at_the_end_report =
    line.TxMade (codes "t1") ∷
    line.TxMade (codes "t2") ∷
    line.Vote 0 (codes "t1") (vote_text.Voted (None ∷ None ∷ [])) ∷
    line.Vote 1 (codes "t1") (vote_text.Voted (None ∷ None ∷ [])) ∷
    line.Vote 2 (codes "t1") (vote_text.Voted (None ∷ None ∷ [])) ∷
    line.Cert (codes "t1") (cert_text.Formed (0 ∷ 1 ∷ 2 ∷ [])) ∷
    line.Vote 0 (codes "t2") (vote_text.Voted (None ∷ None ∷ [])) ∷
    line.Vote 1 (codes "t2") (vote_text.Voted (None ∷ None ∷ [])) ∷
    line.Vote 2 (codes "t2") (vote_text.Voted (None ∷ None ∷ [])) ∷
    line.Cert (codes "t2") (cert_text.Formed (0 ∷ 1 ∷ 2 ∷ [])) ∷
    line.Order (codes "t1") (order_text.Entry 0) ∷
    line.Order (codes "t2") (order_text.Entry 1) ∷
    line.SeeEntry 0 0 (entry_text.Taken ((codes "t1") ∷ []) []) ∷
    line.SeeEntry 0 1 (entry_text.Deferred (codes "t2") (codes "c0")) ∷
    line.Run 0 (run_text.Executed 1) ∷
    line.Done (codes "t1") 2 1100 ∷
    line.Close 1 close_text.Closed ∷
    line.End 1 end_text.Said ∷
    line.OrderEnd 1 (order_end_text.Entry 2) ∷
    line.Close 2 close_text.Closed ∷
    line.End 2 end_text.Said ∷
    line.OrderEnd 2 (order_end_text.Entry 3) ∷
    line.Close 3 close_text.Closed ∷
    line.End 3 end_text.Said ∷
    line.OrderEnd 3 (order_end_text.Entry 4) ∷
    line.SeeEntry 0 2 (entry_text.EndOf 1 1 4 false) ∷
    line.SeeEntry 0 3 (entry_text.EndOf 2 2 4 false) ∷
    line.SeeEntry 0 4 (entry_text.EndOf 3 3 4 true) ∷
    line.Checkpoint 0 ((codes "t1") ∷ []) true ∷
    line.Turn 0 (turn_text.Turned 1 0) ∷ []

pub record ASecondWriterIsDeferred : Type 0 where
  pub behind_the_mark : Reports behind_the_mark_lines behind_the_mark_events behind_the_mark_report
  pub at_the_end : Reports at_the_end_lines at_the_end_events at_the_end_report
