-- Only certificates of faulty members: an input that nobody made is absent, a shared one is dropped, a wrong digest does not fit.
use Rattle.std.specs.Prelude.{List, [], ◌∷◌, true, false, Some, None, codes}
use Rattle.schedule_text.specs.declared.words.Setup.{Setup}
use Rattle.schedule_text.specs.declared.words.Setup.TheVariants as setup
use Rattle.schedule_text.specs.declared.words.Event.{Event}
use Rattle.schedule_text.specs.declared.words.Event.TheVariants as event
use Rattle.schedule_text.specs.declared.words.ObjWord.TheVariants as object_word
use Rattle.schedule_text.specs.declared.words.InputWord.TheVariants as input_word
use Rattle.schedule_text.specs.declared.words.ArgWord.TheVariants as arg_word
use Rattle.schedule_text.specs.declared.words.CommandWord.TheVariants as command_word
use Rattle.report_text.specs.declared.lines.Line.{Line}
use Rattle.report_text.specs.declared.lines.Line.TheVariants as line
use Rattle.report_text.specs.declared.lines.CertText.TheVariants as cert_text
use Rattle.report_text.specs.declared.lines.SendText.TheVariants as send_text
use Rattle.report_text.specs.declared.lines.OrderText.TheVariants as order_text
use Rattle.report_text.specs.declared.lines.EntryText.TheVariants as entry_text
use Rattle.report_text.specs.declared.lines.RunText.TheVariants as run_text
use Rattle.rows_law.specs.Reported.{Reports}

abbrev pub absent_lines : List Setup
absent_lines =
    setup.Member 1 true ∷
    setup.Member 1 false ∷
    setup.Member 1 false ∷
    setup.Member 1 false ∷
    setup.Coin (codes "g0") (codes "alice") 10000 ∷
    setup.Coin (codes "g1") (codes "alice") 10000 ∷ []

abbrev pub absent_events : List Event
absent_events =
    event.Tx (codes "t1") (codes "alice") false 0 (record { object = (object_word.Setup (codes "g0")); version = 1; spoiled = false }) 2000 (input_word.Number 500 ∷ input_word.Address (codes "bob") ∷ []) (command_word.Split (arg_word.Gas ∷ arg_word.Input 0 ∷ []) ∷ command_word.Transfer (arg_word.Result 0 ∷ arg_word.Input 1 ∷ []) ∷ []) ∷
    event.Tx (codes "t2") (codes "alice") false 0 (record { object = (object_word.Setup (codes "g1")); version = 1; spoiled = false }) 2000 (input_word.Owned (record { object = (object_word.Created (codes "t1") 1); version = 2; spoiled = false }) ∷ input_word.Address (codes "bob") ∷ []) (command_word.Transfer (arg_word.Input 0 ∷ arg_word.Input 1 ∷ []) ∷ []) ∷
    event.Fvote 1 (codes "t1") [] ∷
    event.Fvote 2 (codes "t1") [] ∷
    event.Fvote 3 (codes "t1") [] ∷
    event.Fvote 1 (codes "t2") (None ∷ Some (codes "t1") ∷ []) ∷
    event.Fvote 2 (codes "t2") (None ∷ Some (codes "t1") ∷ []) ∷
    event.Fvote 3 (codes "t2") (None ∷ Some (codes "t1") ∷ []) ∷
    event.Cert (codes "t1") (1 ∷ 2 ∷ 3 ∷ []) ∷
    event.Cert (codes "t2") (1 ∷ 2 ∷ 3 ∷ []) ∷
    event.Send 0 (codes "t1") ∷
    event.Send 0 (codes "t2") ∷
    event.Run 0 1 ∷ []

abbrev pub absent_report : List Line
absent_report =
    line.TxMade (codes "t1") ∷
    line.TxMade (codes "t2") ∷
    line.Fvote 1 (codes "t1") (None ∷ []) ∷
    line.Fvote 2 (codes "t1") (None ∷ []) ∷
    line.Fvote 3 (codes "t1") (None ∷ []) ∷
    line.Fvote 1 (codes "t2") (None ∷ Some (codes "t1") ∷ []) ∷
    line.Fvote 2 (codes "t2") (None ∷ Some (codes "t1") ∷ []) ∷
    line.Fvote 3 (codes "t2") (None ∷ Some (codes "t1") ∷ []) ∷
    line.Cert (codes "t1") (cert_text.Formed (1 ∷ 2 ∷ 3 ∷ [])) ∷
    line.Cert (codes "t2") (cert_text.Formed (1 ∷ 2 ∷ 3 ∷ [])) ∷
    line.Send 0 (codes "t1") send_text.Held ∷
    line.Send 0 (codes "t2") send_text.Held ∷
    line.Run 0 (run_text.Executed 1) ∷
    line.Done (codes "t1") 2 1200 ∷
    line.Absent (codes "t2") (codes "t1.1@2") ∷ []

abbrev pub dropped_lines : List Setup
dropped_lines =
    setup.Member 1 true ∷
    setup.Member 1 false ∷
    setup.Member 1 false ∷
    setup.Member 1 false ∷
    setup.Coin (codes "g0") (codes "alice") 10000 ∷
    setup.Coin (codes "g1") (codes "alice") 10000 ∷ []

abbrev pub dropped_events : List Event
dropped_events =
    event.Tx (codes "t1") (codes "alice") false 0 (record { object = (object_word.Setup (codes "g0")); version = 1; spoiled = false }) 2000 (input_word.Number 500 ∷ input_word.Address (codes "bob") ∷ []) (command_word.Split (arg_word.Gas ∷ arg_word.Input 0 ∷ []) ∷ command_word.Transfer (arg_word.Result 0 ∷ arg_word.Input 1 ∷ []) ∷ []) ∷
    event.Tx (codes "t2") (codes "alice") false 0 (record { object = (object_word.Setup (codes "g1")); version = 1; spoiled = false }) 2000 (input_word.Number 1 ∷ input_word.Shared (object_word.Created (codes "t1") 0) 2 true ∷ []) (command_word.Call 5 (arg_word.Input 1 ∷ arg_word.Input 0 ∷ []) ∷ []) ∷
    event.Fvote 1 (codes "t2") (None ∷ None ∷ []) ∷
    event.Fvote 2 (codes "t2") (None ∷ None ∷ []) ∷
    event.Fvote 3 (codes "t2") (None ∷ None ∷ []) ∷
    event.Cert (codes "t2") (1 ∷ 2 ∷ 3 ∷ []) ∷
    event.Order (codes "t2") ∷
    event.See 0 1 ∷ []

abbrev pub dropped_report : List Line
dropped_report =
    line.TxMade (codes "t1") ∷
    line.TxMade (codes "t2") ∷
    line.Fvote 1 (codes "t2") (None ∷ None ∷ []) ∷
    line.Fvote 2 (codes "t2") (None ∷ None ∷ []) ∷
    line.Fvote 3 (codes "t2") (None ∷ None ∷ []) ∷
    line.Cert (codes "t2") (cert_text.Formed (1 ∷ 2 ∷ 3 ∷ [])) ∷
    line.Order (codes "t2") (order_text.Entry 0) ∷
    line.SeeEntry 0 0 (entry_text.Taken [] ((codes "t2") ∷ [])) ∷ []

abbrev pub unfit_lines : List Setup
unfit_lines =
    setup.Member 1 true ∷
    setup.Member 1 false ∷
    setup.Member 1 false ∷
    setup.Member 1 false ∷
    setup.Coin (codes "g0") (codes "alice") 10000 ∷ []

abbrev pub unfit_events : List Event
unfit_events =
    event.Tx (codes "t1") (codes "alice") false 0 (record { object = (object_word.Setup (codes "g0")); version = 1; spoiled = true }) 2000 (input_word.Address (codes "bob") ∷ []) (command_word.Transfer (arg_word.Gas ∷ arg_word.Input 0 ∷ []) ∷ []) ∷
    event.Fvote 1 (codes "t1") [] ∷
    event.Fvote 2 (codes "t1") [] ∷
    event.Fvote 3 (codes "t1") [] ∷
    event.Cert (codes "t1") (1 ∷ 2 ∷ 3 ∷ []) ∷
    event.Send 0 (codes "t1") ∷
    event.Run 0 1 ∷ []

abbrev pub unfit_report : List Line
unfit_report =
    line.TxMade (codes "t1") ∷
    line.Fvote 1 (codes "t1") (None ∷ []) ∷
    line.Fvote 2 (codes "t1") (None ∷ []) ∷
    line.Fvote 3 (codes "t1") (None ∷ []) ∷
    line.Cert (codes "t1") (cert_text.Formed (1 ∷ 2 ∷ 3 ∷ [])) ∷
    line.Send 0 (codes "t1") send_text.Held ∷
    line.Run 0 (run_text.Executed 0) ∷
    line.Unfit (codes "t1") ∷ []

pub record WhatFaultyVotesLeave : Type 0 where
  pub absent : Reports absent_lines absent_events absent_report
  pub dropped : Reports dropped_lines dropped_events dropped_report
  pub unfit : Reports unfit_lines unfit_events unfit_report
