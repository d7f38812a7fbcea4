-- An executed transaction in no checkpoint leaves no trace in the next epoch.
use Rattle.std.specs.Prelude.{List, [], ◌∷◌, true, false, None, codes}
use Rattle.schedule_text.specs.declared.words.Setup.{Setup}
use Rattle.schedule_text.specs.declared.words.Setup.TheVariants as setup
use Rattle.schedule_text.specs.declared.words.Event.{Event}
use Rattle.schedule_text.specs.declared.words.Event.TheVariants as event
use Rattle.schedule_text.specs.declared.words.ObjWord.TheVariants as object_word
use Rattle.schedule_text.specs.declared.words.InputWord.TheVariants as input_word
use Rattle.schedule_text.specs.declared.words.ArgWord.TheVariants as arg_word
use Rattle.schedule_text.specs.declared.words.CommandWord.TheVariants as command_word
use Rattle.report_text.specs.declared.lines.Line.{Line}
use Rattle.report_text.specs.declared.lines.Line.TheVariants as line
use Rattle.report_text.specs.declared.lines.VoteText.TheVariants as vote_text
use Rattle.report_text.specs.declared.lines.CertText.TheVariants as cert_text
use Rattle.report_text.specs.declared.lines.SendText.TheVariants as send_text
use Rattle.report_text.specs.declared.lines.OrderEndText.TheVariants as order_end_text
use Rattle.report_text.specs.declared.lines.EntryText.TheVariants as entry_text
use Rattle.report_text.specs.declared.lines.RunText.TheVariants as run_text
use Rattle.report_text.specs.declared.lines.CloseText.TheVariants as close_text
use Rattle.report_text.specs.declared.lines.EndText.TheVariants as end_text
use Rattle.report_text.specs.declared.lines.TurnText.TheVariants as turn_text
use Rattle.report_text.specs.declared.lines.ShowText.TheVariants as show_text
use Rattle.report_text.specs.declared.lines.OwnerText.TheVariants as owner_text
use Rattle.report_text.specs.declared.lines.ContentText.TheVariants as content_text
use Rattle.rows_law.specs.Reported.{Reports}

abbrev pub lines : List Setup
lines =
    setup.Member 1 true ∷
    setup.Member 1 true ∷
    setup.Member 1 true ∷
    setup.Member 1 true ∷
    setup.Coin (codes "g0") (codes "alice") 10000 ∷ []

abbrev pub events : List Event
events =
    event.Tx (codes "t1") (codes "alice") false 0 (record { object = (object_word.Setup (codes "g0")); version = 1; spoiled = false }) 2000 (input_word.Number 500 ∷ input_word.Address (codes "bob") ∷ []) (command_word.Split (arg_word.Gas ∷ arg_word.Input 0 ∷ []) ∷ command_word.Transfer (arg_word.Result 0 ∷ arg_word.Input 1 ∷ []) ∷ []) ∷
    event.Vote 0 (codes "t1") ∷
    event.Vote 1 (codes "t1") ∷
    event.Vote 2 (codes "t1") ∷
    event.Cert (codes "t1") (0 ∷ 1 ∷ 2 ∷ []) ∷
    event.Send 0 (codes "t1") ∷
    event.Run 0 1 ∷
    event.Close 0 ∷
    event.End 0 ∷
    event.Close 1 ∷
    event.End 1 ∷
    event.Close 2 ∷
    event.End 2 ∷
    event.Close 3 ∷
    event.End 3 ∷
    event.OrderEnd 1 ∷
    event.OrderEnd 2 ∷
    event.OrderEnd 3 ∷
    event.See 0 3 ∷
    event.Turn 0 ∷
    event.Show 0 ∷
    event.Tx (codes "t3") (codes "alice") false 1 (record { object = (object_word.Setup (codes "g0")); version = 1; spoiled = false }) 2000 (input_word.Address (codes "bob") ∷ []) (command_word.Transfer (arg_word.Gas ∷ arg_word.Input 0 ∷ []) ∷ []) ∷
    event.Vote 0 (codes "t3") ∷ []

abbrev pub report : List Line
report =
    line.TxMade (codes "t1") ∷
    line.Vote 0 (codes "t1") (vote_text.Voted (None ∷ [])) ∷
    line.Vote 1 (codes "t1") (vote_text.Voted (None ∷ [])) ∷
    line.Vote 2 (codes "t1") (vote_text.Voted (None ∷ [])) ∷
    line.Cert (codes "t1") (cert_text.Formed (0 ∷ 1 ∷ 2 ∷ [])) ∷
    line.Send 0 (codes "t1") send_text.Held ∷
    line.Run 0 (run_text.Executed 1) ∷
    line.Done (codes "t1") 2 1200 ∷
    line.Close 0 close_text.Closed ∷
    line.End 0 (end_text.Waits (codes "t1")) ∷
    line.Close 1 close_text.Closed ∷
    line.End 1 end_text.Said ∷
    line.Close 2 close_text.Closed ∷
    line.End 2 end_text.Said ∷
    line.Close 3 close_text.Closed ∷
    line.End 3 end_text.Said ∷
    line.OrderEnd 1 (order_end_text.Entry 0) ∷
    line.OrderEnd 2 (order_end_text.Entry 1) ∷
    line.OrderEnd 3 (order_end_text.Entry 2) ∷
    line.SeeEntry 0 0 (entry_text.EndOf 1 1 4 false) ∷
    line.SeeEntry 0 1 (entry_text.EndOf 2 2 4 false) ∷
    line.SeeEntry 0 2 (entry_text.EndOf 3 3 4 true) ∷
    line.Checkpoint 0 [] true ∷
    line.Turn 0 (turn_text.Turned 1 1) ∷
    line.Reverted (codes "t1") ∷
    line.Show 0 (show_text.Shown 1 1) ∷
    line.Object (codes "g0") 1 (owner_text.Address (codes "alice")) (content_text.Coin 0 10000) ∷
    line.TxMade (codes "t3") ∷
    line.Vote 0 (codes "t3") (vote_text.Voted (None ∷ [])) ∷ []

abbrev pub WhatWasNotOrderedIsReverted : Type 0
WhatWasNotOrderedIsReverted = Reports lines events report
