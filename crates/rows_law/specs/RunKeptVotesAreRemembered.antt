-- A stop at the append of a vote: lost, the member may vote otherwise; kept, it may not.
use Rattle.std.specs.Prelude.{List, [], ◌∷◌, true, false, None, codes}
use Rattle.schedule_text.specs.declared.words.Setup.{Setup}
use Rattle.schedule_text.specs.declared.words.Setup.TheVariants as setup
use Rattle.schedule_text.specs.declared.words.Event.{Event}
use Rattle.schedule_text.specs.declared.words.Event.TheVariants as event
use Rattle.schedule_text.specs.declared.words.ObjWord.TheVariants as object_word
use Rattle.schedule_text.specs.declared.words.InputWord.TheVariants as input_word
use Rattle.schedule_text.specs.declared.words.ArgWord.TheVariants as arg_word
use Rattle.schedule_text.specs.declared.words.CommandWord.TheVariants as command_word
use Rattle.report_text.specs.declared.lines.Line.{Line}
use Rattle.report_text.specs.declared.lines.Line.TheVariants as line
use Rattle.report_text.specs.declared.lines.VoteText.TheVariants as vote_text
use Rattle.report_text.specs.declared.lines.CertText.TheVariants as cert_text
use Rattle.report_text.specs.declared.lines.SendText.TheVariants as send_text
use Rattle.report_text.specs.declared.lines.RunText.TheVariants as run_text
use Rattle.report_text.specs.declared.lines.RestartText.TheVariants as restart_text
use Rattle.rows_law.specs.Reported.{Reports}

abbrev pub lost_lines : List Setup
lost_lines =
    setup.Member 1 true ∷
    setup.Member 1 true ∷
    setup.Member 1 true ∷
    setup.Member 1 true ∷
    setup.Coin (codes "g0") (codes "alice") 10000 ∷ []

abbrev pub lost_events : List Event
lost_events =
    event.Tx (codes "t1") (codes "alice") false 0 (record { object = (object_word.Setup (codes "g0")); version = 1; spoiled = false }) 2000 (input_word.Number 500 ∷ input_word.Address (codes "bob") ∷ []) (command_word.Split (arg_word.Gas ∷ arg_word.Input 0 ∷ []) ∷ command_word.Transfer (arg_word.Result 0 ∷ arg_word.Input 1 ∷ []) ∷ []) ∷
    event.Tx (codes "t2") (codes "alice") false 0 (record { object = (object_word.Setup (codes "g0")); version = 1; spoiled = false }) 2000 (input_word.Address (codes "bob") ∷ []) (command_word.Transfer (arg_word.Gas ∷ arg_word.Input 0 ∷ []) ∷ []) ∷
    event.Stop 0 false ∷
    event.Vote 0 (codes "t1") ∷
    event.Vote 0 (codes "t2") ∷
    event.Restart 0 ∷
    event.Vote 0 (codes "t2") ∷ []

abbrev pub lost_report : List Line
lost_report =
    line.TxMade (codes "t1") ∷
    line.TxMade (codes "t2") ∷
    line.Stop 0 false ∷
    line.Vote 0 (codes "t1") vote_text.Stopped ∷
    line.Vote 0 (codes "t2") vote_text.Down ∷
    line.Restart 0 (restart_text.Records 0) ∷
    line.Vote 0 (codes "t2") (vote_text.Voted (None ∷ [])) ∷ []

abbrev pub kept_lines : List Setup
kept_lines =
    setup.Member 1 true ∷
    setup.Member 1 true ∷
    setup.Member 1 true ∷
    setup.Member 1 true ∷
    setup.Coin (codes "g0") (codes "alice") 10000 ∷ []

abbrev pub kept_events : List Event
kept_events =
    event.Tx (codes "t1") (codes "alice") false 0 (record { object = (object_word.Setup (codes "g0")); version = 1; spoiled = false }) 2000 (input_word.Number 500 ∷ input_word.Address (codes "bob") ∷ []) (command_word.Split (arg_word.Gas ∷ arg_word.Input 0 ∷ []) ∷ command_word.Transfer (arg_word.Result 0 ∷ arg_word.Input 1 ∷ []) ∷ []) ∷
    event.Tx (codes "t2") (codes "alice") false 0 (record { object = (object_word.Setup (codes "g0")); version = 1; spoiled = false }) 2000 (input_word.Address (codes "bob") ∷ []) (command_word.Transfer (arg_word.Gas ∷ arg_word.Input 0 ∷ []) ∷ []) ∷
    event.Stop 0 true ∷
    event.Vote 0 (codes "t1") ∷
    event.Vote 0 (codes "t2") ∷
    event.Restart 0 ∷
    event.Vote 0 (codes "t2") ∷ []

abbrev pub kept_report : List Line
kept_report =
    line.TxMade (codes "t1") ∷
    line.TxMade (codes "t2") ∷
    line.Stop 0 true ∷
    line.Vote 0 (codes "t1") vote_text.Stopped ∷
    line.Vote 0 (codes "t2") vote_text.Down ∷
    line.Restart 0 (restart_text.Records 1) ∷
    line.Vote 0 (codes "t2") (vote_text.Locked (codes "g0@1") (codes "t1")) ∷ []

abbrev pub run_lines : List Setup
run_lines =
    setup.Member 1 true ∷
    setup.Member 1 true ∷
    setup.Member 1 true ∷
    setup.Member 1 true ∷
    setup.Coin (codes "g0") (codes "alice") 10000 ∷ []

abbrev pub run_events : List Event
run_events =
    event.Tx (codes "t1") (codes "alice") false 0 (record { object = (object_word.Setup (codes "g0")); version = 1; spoiled = false }) 2000 (input_word.Number 500 ∷ input_word.Address (codes "bob") ∷ []) (command_word.Split (arg_word.Gas ∷ arg_word.Input 0 ∷ []) ∷ command_word.Transfer (arg_word.Result 0 ∷ arg_word.Input 1 ∷ []) ∷ []) ∷
    event.Vote 0 (codes "t1") ∷
    event.Vote 1 (codes "t1") ∷
    event.Vote 2 (codes "t1") ∷
    event.Cert (codes "t1") (0 ∷ 1 ∷ 2 ∷ []) ∷
    event.Send 0 (codes "t1") ∷
    event.Stop 0 false ∷
    event.Run 0 1 ∷
    event.Restart 0 ∷
    event.Run 0 1 ∷ []

abbrev pub run_report : List Line
run_report =
    line.TxMade (codes "t1") ∷
    line.Vote 0 (codes "t1") (vote_text.Voted (None ∷ [])) ∷
    line.Vote 1 (codes "t1") (vote_text.Voted (None ∷ [])) ∷
    line.Vote 2 (codes "t1") (vote_text.Voted (None ∷ [])) ∷
    line.Cert (codes "t1") (cert_text.Formed (0 ∷ 1 ∷ 2 ∷ [])) ∷
    line.Send 0 (codes "t1") send_text.Held ∷
    line.Stop 0 false ∷
    line.Run 0 run_text.Stopped ∷
    line.Restart 0 (restart_text.Records 2) ∷
    line.Run 0 (run_text.Executed 1) ∷
    line.Done (codes "t1") 2 1200 ∷ []

pub record KeptVotesAreRemembered : Type 0 where
  pub lost : Reports lost_lines lost_events lost_report
  pub kept : Reports kept_lines kept_events kept_report
  pub run : Reports run_lines run_events run_report
