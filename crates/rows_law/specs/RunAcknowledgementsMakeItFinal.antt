-- A quorum of acknowledgements of one effects digest makes a transaction final.
use Rattle.std.specs.Prelude.{List, [], ◌∷◌, true, false, None, codes}
use Rattle.schedule_text.specs.declared.words.Setup.{Setup}
use Rattle.schedule_text.specs.declared.words.Setup.TheVariants as setup
use Rattle.schedule_text.specs.declared.words.Event.{Event}
use Rattle.schedule_text.specs.declared.words.Event.TheVariants as event
use Rattle.schedule_text.specs.declared.words.ObjWord.TheVariants as object_word
use Rattle.schedule_text.specs.declared.words.InputWord.TheVariants as input_word
use Rattle.schedule_text.specs.declared.words.ArgWord.TheVariants as arg_word
use Rattle.schedule_text.specs.declared.words.CommandWord.TheVariants as command_word
use Rattle.report_text.specs.declared.lines.Line.{Line}
use Rattle.report_text.specs.declared.lines.Line.TheVariants as line
use Rattle.report_text.specs.declared.lines.VoteText.TheVariants as vote_text
use Rattle.report_text.specs.declared.lines.CertText.TheVariants as cert_text
use Rattle.report_text.specs.declared.lines.SendText.TheVariants as send_text
use Rattle.report_text.specs.declared.lines.RunText.TheVariants as run_text
use Rattle.report_text.specs.declared.lines.AckText.TheVariants as ack_text
use Rattle.report_text.specs.declared.lines.FinalText.TheVariants as final_text
use Rattle.rows_law.specs.Reported.{Reports}

abbrev pub by_a_quorum_lines : List Setup
by_a_quorum_lines =
    setup.Member 1 true ∷
    setup.Member 1 true ∷
    setup.Member 1 true ∷
    setup.Member 1 true ∷
    setup.Coin (codes "g0") (codes "alice") 10000 ∷ []

abbrev pub by_a_quorum_events : List Event
by_a_quorum_events =
    event.Tx (codes "t1") (codes "alice") false 0 (record { object = (object_word.Setup (codes "g0")); version = 1; spoiled = false }) 2000 (input_word.Number 500 ∷ input_word.Address (codes "bob") ∷ []) (command_word.Split (arg_word.Gas ∷ arg_word.Input 0 ∷ []) ∷ command_word.Transfer (arg_word.Result 0 ∷ arg_word.Input 1 ∷ []) ∷ []) ∷
    event.Vote 0 (codes "t1") ∷
    event.Vote 1 (codes "t1") ∷
    event.Vote 2 (codes "t1") ∷
    event.Cert (codes "t1") (0 ∷ 1 ∷ 2 ∷ []) ∷
    event.Send 0 (codes "t1") ∷
    event.Run 0 1 ∷
    event.Ack 0 (codes "t1") false ∷
    event.Send 1 (codes "t1") ∷
    event.Run 1 1 ∷
    event.Ack 1 (codes "t1") false ∷
    event.Send 2 (codes "t1") ∷
    event.Run 2 1 ∷
    event.Ack 2 (codes "t1") false ∷
    event.Ack 3 (codes "t1") false ∷
    event.Final (codes "t1") (0 ∷ 1 ∷ []) ∷
    event.Final (codes "t1") (0 ∷ 1 ∷ 2 ∷ []) ∷
    event.Final (codes "t1") (0 ∷ 1 ∷ 3 ∷ []) ∷ []

abbrev pub by_a_quorum_report : List Line
by_a_quorum_report =
    line.TxMade (codes "t1") ∷
    line.Vote 0 (codes "t1") (vote_text.Voted (None ∷ [])) ∷
    line.Vote 1 (codes "t1") (vote_text.Voted (None ∷ [])) ∷
    line.Vote 2 (codes "t1") (vote_text.Voted (None ∷ [])) ∷
    line.Cert (codes "t1") (cert_text.Formed (0 ∷ 1 ∷ 2 ∷ [])) ∷
    line.Send 0 (codes "t1") send_text.Held ∷
    line.Run 0 (run_text.Executed 1) ∷
    line.Done (codes "t1") 2 1200 ∷
    line.Ack 0 (codes "t1") ack_text.Said ∷
    line.Send 1 (codes "t1") send_text.Held ∷
    line.Run 1 (run_text.Executed 1) ∷
    line.Done (codes "t1") 2 1200 ∷
    line.Ack 1 (codes "t1") ack_text.Said ∷
    line.Send 2 (codes "t1") send_text.Held ∷
    line.Run 2 (run_text.Executed 1) ∷
    line.Done (codes "t1") 2 1200 ∷
    line.Ack 2 (codes "t1") ack_text.Said ∷
    line.Ack 3 (codes "t1") ack_text.NotExecuted ∷
    line.Final (codes "t1") (final_text.Short 2 4) ∷
    line.Final (codes "t1") (final_text.FinalBy (0 ∷ 1 ∷ 2 ∷ [])) ∷
    line.Final (codes "t1") (final_text.NoAck 3) ∷ []

abbrev pub that_differ_lines : List Setup
that_differ_lines =
    setup.Member 1 true ∷
    setup.Member 1 true ∷
    setup.Member 1 true ∷
    setup.Member 1 false ∷
    setup.Coin (codes "g0") (codes "alice") 10000 ∷ []

abbrev pub that_differ_events : List Event
that_differ_events =
    event.Tx (codes "t1") (codes "alice") false 0 (record { object = (object_word.Setup (codes "g0")); version = 1; spoiled = false }) 2000 (input_word.Number 500 ∷ input_word.Address (codes "bob") ∷ []) (command_word.Split (arg_word.Gas ∷ arg_word.Input 0 ∷ []) ∷ command_word.Transfer (arg_word.Result 0 ∷ arg_word.Input 1 ∷ []) ∷ []) ∷
    event.Vote 0 (codes "t1") ∷
    event.Vote 1 (codes "t1") ∷
    event.Vote 2 (codes "t1") ∷
    event.Cert (codes "t1") (0 ∷ 1 ∷ 2 ∷ []) ∷
    event.Send 0 (codes "t1") ∷
    event.Run 0 1 ∷
    event.Ack 0 (codes "t1") false ∷
    event.Send 1 (codes "t1") ∷
    event.Run 1 1 ∷
    event.Ack 1 (codes "t1") false ∷
    event.Send 2 (codes "t1") ∷
    event.Run 2 1 ∷
    event.Ack 2 (codes "t1") false ∷
    event.Ack 3 (codes "t1") true ∷
    event.Final (codes "t1") (0 ∷ 1 ∷ 3 ∷ []) ∷ []

abbrev pub that_differ_report : List Line
that_differ_report =
    line.TxMade (codes "t1") ∷
    line.Vote 0 (codes "t1") (vote_text.Voted (None ∷ [])) ∷
    line.Vote 1 (codes "t1") (vote_text.Voted (None ∷ [])) ∷
    line.Vote 2 (codes "t1") (vote_text.Voted (None ∷ [])) ∷
    line.Cert (codes "t1") (cert_text.Formed (0 ∷ 1 ∷ 2 ∷ [])) ∷
    line.Send 0 (codes "t1") send_text.Held ∷
    line.Run 0 (run_text.Executed 1) ∷
    line.Done (codes "t1") 2 1200 ∷
    line.Ack 0 (codes "t1") ack_text.Said ∷
    line.Send 1 (codes "t1") send_text.Held ∷
    line.Run 1 (run_text.Executed 1) ∷
    line.Done (codes "t1") 2 1200 ∷
    line.Ack 1 (codes "t1") ack_text.Said ∷
    line.Send 2 (codes "t1") send_text.Held ∷
    line.Run 2 (run_text.Executed 1) ∷
    line.Done (codes "t1") 2 1200 ∷
    line.Ack 2 (codes "t1") ack_text.Said ∷
    line.Ack 3 (codes "t1") ack_text.Said ∷
    line.Final (codes "t1") (final_text.Differ 0 3) ∷ []

pub record AcknowledgementsMakeItFinal : Type 0 where
  pub by_a_quorum : Reports by_a_quorum_lines by_a_quorum_events by_a_quorum_report
  pub that_differ : Reports that_differ_lines that_differ_events that_differ_report
