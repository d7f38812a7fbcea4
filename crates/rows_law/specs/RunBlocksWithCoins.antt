-- The gas coin may be sent and merged into, not merged away; an empty vector aborts, and a result may not be left.
use Rattle.std.specs.Prelude.{List, [], ◌∷◌, true, false, None, codes}
use Rattle.schedule_text.specs.declared.words.Setup.{Setup}
use Rattle.schedule_text.specs.declared.words.Setup.TheVariants as setup
use Rattle.schedule_text.specs.declared.words.Event.{Event}
use Rattle.schedule_text.specs.declared.words.Event.TheVariants as event
use Rattle.schedule_text.specs.declared.words.ObjWord.TheVariants as object_word
use Rattle.schedule_text.specs.declared.words.InputWord.TheVariants as input_word
use Rattle.schedule_text.specs.declared.words.ArgWord.TheVariants as arg_word
use Rattle.schedule_text.specs.declared.words.CommandWord.TheVariants as command_word
use Rattle.report_text.specs.declared.lines.Line.{Line}
use Rattle.report_text.specs.declared.lines.Line.TheVariants as line
use Rattle.report_text.specs.declared.lines.VoteText.TheVariants as vote_text
use Rattle.report_text.specs.declared.lines.CertText.TheVariants as cert_text
use Rattle.report_text.specs.declared.lines.SendText.TheVariants as send_text
use Rattle.report_text.specs.declared.lines.RunText.TheVariants as run_text
use Rattle.report_text.specs.declared.lines.ShowText.TheVariants as show_text
use Rattle.report_text.specs.declared.lines.OwnerText.TheVariants as owner_text
use Rattle.report_text.specs.declared.lines.ContentText.TheVariants as content_text
use Rattle.rows_law.specs.Reported.{Reports}

abbrev pub sent_lines : List Setup
sent_lines =
    setup.Member 1 true ∷
    setup.Member 1 true ∷
    setup.Member 1 true ∷
    setup.Member 1 true ∷
    setup.Coin (codes "g0") (codes "alice") 10000 ∷
    setup.Coin (codes "g1") (codes "alice") 700 ∷ []

abbrev pub sent_events : List Event
sent_events =
    event.Tx (codes "t2") (codes "alice") false 0 (record { object = (object_word.Setup (codes "g0")); version = 1; spoiled = false }) 2000 (input_word.Address (codes "bob") ∷ []) (command_word.Transfer (arg_word.Gas ∷ arg_word.Input 0 ∷ []) ∷ []) ∷
    event.Vote 0 (codes "t2") ∷
    event.Vote 1 (codes "t2") ∷
    event.Vote 2 (codes "t2") ∷
    event.Cert (codes "t2") (0 ∷ 1 ∷ 2 ∷ []) ∷
    event.Send 0 (codes "t2") ∷
    event.Run 0 1 ∷
    event.Show 0 ∷ []

abbrev pub sent_report : List Line
sent_report =
    line.TxMade (codes "t2") ∷
    line.Vote 0 (codes "t2") (vote_text.Voted (None ∷ [])) ∷
    line.Vote 1 (codes "t2") (vote_text.Voted (None ∷ [])) ∷
    line.Vote 2 (codes "t2") (vote_text.Voted (None ∷ [])) ∷
    line.Cert (codes "t2") (cert_text.Formed (0 ∷ 1 ∷ 2 ∷ [])) ∷
    line.Send 0 (codes "t2") send_text.Held ∷
    line.Run 0 (run_text.Executed 1) ∷
    line.Done (codes "t2") 2 1100 ∷
    line.Show 0 (show_text.Shown 0 2) ∷
    line.Object (codes "g0") 2 (owner_text.Address (codes "bob")) (content_text.Coin 0 8900) ∷
    line.Object (codes "g1") 1 (owner_text.Address (codes "alice")) (content_text.Coin 0 700) ∷ []

abbrev pub merged_lines : List Setup
merged_lines =
    setup.Member 1 true ∷
    setup.Member 1 true ∷
    setup.Member 1 true ∷
    setup.Member 1 true ∷
    setup.Coin (codes "g0") (codes "alice") 10000 ∷
    setup.Coin (codes "g1") (codes "alice") 700 ∷ []

abbrev pub merged_events : List Event
merged_events =
    event.Tx (codes "t1") (codes "alice") false 0 (record { object = (object_word.Setup (codes "g0")); version = 1; spoiled = false }) 2000 (input_word.Owned (record { object = (object_word.Setup (codes "g1")); version = 1; spoiled = false }) ∷ []) (command_word.Merge (arg_word.Gas ∷ arg_word.Input 0 ∷ []) ∷ []) ∷
    event.Vote 0 (codes "t1") ∷
    event.Vote 1 (codes "t1") ∷
    event.Vote 2 (codes "t1") ∷
    event.Cert (codes "t1") (0 ∷ 1 ∷ 2 ∷ []) ∷
    event.Send 0 (codes "t1") ∷
    event.Run 0 1 ∷
    event.Show 0 ∷ []

abbrev pub merged_report : List Line
merged_report =
    line.TxMade (codes "t1") ∷
    line.Vote 0 (codes "t1") (vote_text.Voted (None ∷ None ∷ [])) ∷
    line.Vote 1 (codes "t1") (vote_text.Voted (None ∷ None ∷ [])) ∷
    line.Vote 2 (codes "t1") (vote_text.Voted (None ∷ None ∷ [])) ∷
    line.Cert (codes "t1") (cert_text.Formed (0 ∷ 1 ∷ 2 ∷ [])) ∷
    line.Send 0 (codes "t1") send_text.Held ∷
    line.Run 0 (run_text.Executed 1) ∷
    line.Done (codes "t1") 2 1100 ∷
    line.Show 0 (show_text.Shown 0 1) ∷
    line.Object (codes "g0") 2 (owner_text.Address (codes "alice")) (content_text.Coin 0 9600) ∷ []

abbrev pub nothing_joined_lines : List Setup
nothing_joined_lines =
    setup.Member 1 true ∷
    setup.Member 1 true ∷
    setup.Member 1 true ∷
    setup.Member 1 true ∷
    setup.Coin (codes "g0") (codes "alice") 10000 ∷
    setup.Coin (codes "g1") (codes "alice") 700 ∷ []

abbrev pub nothing_joined_events : List Event
nothing_joined_events =
    event.Tx (codes "t1") (codes "alice") false 0 (record { object = (object_word.Setup (codes "g0")); version = 1; spoiled = false }) 2000 [] (command_word.MakeVec 0 [] ∷ command_word.Call 3 (arg_word.Result 0 ∷ []) ∷ []) ∷
    event.Vote 0 (codes "t1") ∷
    event.Vote 1 (codes "t1") ∷
    event.Vote 2 (codes "t1") ∷
    event.Cert (codes "t1") (0 ∷ 1 ∷ 2 ∷ []) ∷
    event.Send 0 (codes "t1") ∷
    event.Run 0 1 ∷
    event.Show 0 ∷ []

abbrev pub nothing_joined_report : List Line
nothing_joined_report =
    line.TxMade (codes "t1") ∷
    line.Vote 0 (codes "t1") (vote_text.Voted (None ∷ [])) ∷
    line.Vote 1 (codes "t1") (vote_text.Voted (None ∷ [])) ∷
    line.Vote 2 (codes "t1") (vote_text.Voted (None ∷ [])) ∷
    line.Cert (codes "t1") (cert_text.Formed (0 ∷ 1 ∷ 2 ∷ [])) ∷
    line.Send 0 (codes "t1") send_text.Held ∷
    line.Run 0 (run_text.Executed 1) ∷
    line.Aborted (codes "t1") 1 1 2 1200 ∷
    line.Show 0 (show_text.Shown 0 2) ∷
    line.Object (codes "g0") 2 (owner_text.Address (codes "alice")) (content_text.Coin 0 8800) ∷
    line.Object (codes "g1") 1 (owner_text.Address (codes "alice")) (content_text.Coin 0 700) ∷ []

abbrev pub left_over_lines : List Setup
left_over_lines =
    setup.Member 1 true ∷
    setup.Member 1 true ∷
    setup.Member 1 true ∷
    setup.Member 1 true ∷
    setup.Coin (codes "g0") (codes "alice") 10000 ∷
    setup.Coin (codes "g1") (codes "alice") 700 ∷ []

abbrev pub left_over_events : List Event
left_over_events =
    event.Tx (codes "t1") (codes "alice") false 0 (record { object = (object_word.Setup (codes "g0")); version = 1; spoiled = false }) 2000 (input_word.Number 0 ∷ []) (command_word.Call 0 (arg_word.Input 0 ∷ []) ∷ []) ∷
    event.Vote 0 (codes "t1") ∷
    event.Vote 1 (codes "t1") ∷
    event.Vote 2 (codes "t1") ∷
    event.Cert (codes "t1") (0 ∷ 1 ∷ 2 ∷ []) ∷
    event.Send 0 (codes "t1") ∷
    event.Run 0 1 ∷
    event.Show 0 ∷ []

abbrev pub left_over_report : List Line
left_over_report =
    line.TxMade (codes "t1") ∷
    line.Vote 0 (codes "t1") (vote_text.Voted (None ∷ [])) ∷
    line.Vote 1 (codes "t1") (vote_text.Voted (None ∷ [])) ∷
    line.Vote 2 (codes "t1") (vote_text.Voted (None ∷ [])) ∷
    line.Cert (codes "t1") (cert_text.Formed (0 ∷ 1 ∷ 2 ∷ [])) ∷
    line.Send 0 (codes "t1") send_text.Held ∷
    line.Run 0 (run_text.Executed 1) ∷
    line.Failed (codes "t1") 1 12 2 1100 ∷
    line.Show 0 (show_text.Shown 0 2) ∷
    line.Object (codes "g0") 2 (owner_text.Address (codes "alice")) (content_text.Coin 0 8900) ∷
    line.Object (codes "g1") 1 (owner_text.Address (codes "alice")) (content_text.Coin 0 700) ∷ []

abbrev pub gas_by_value_lines : List Setup
gas_by_value_lines =
    setup.Member 1 true ∷
    setup.Member 1 true ∷
    setup.Member 1 true ∷
    setup.Member 1 true ∷
    setup.Coin (codes "g0") (codes "alice") 10000 ∷
    setup.Coin (codes "g1") (codes "alice") 700 ∷ []

abbrev pub gas_by_value_events : List Event
gas_by_value_events =
    event.Tx (codes "t1") (codes "alice") false 0 (record { object = (object_word.Setup (codes "g0")); version = 1; spoiled = false }) 2000 (input_word.Owned (record { object = (object_word.Setup (codes "g1")); version = 1; spoiled = false }) ∷ []) (command_word.Merge (arg_word.Input 0 ∷ arg_word.Gas ∷ []) ∷ []) ∷
    event.Vote 0 (codes "t1") ∷
    event.Vote 1 (codes "t1") ∷
    event.Vote 2 (codes "t1") ∷
    event.Cert (codes "t1") (0 ∷ 1 ∷ 2 ∷ []) ∷
    event.Send 0 (codes "t1") ∷
    event.Run 0 1 ∷
    event.Show 0 ∷ []

abbrev pub gas_by_value_report : List Line
gas_by_value_report =
    line.TxMade (codes "t1") ∷
    line.Vote 0 (codes "t1") (vote_text.Voted (None ∷ None ∷ [])) ∷
    line.Vote 1 (codes "t1") (vote_text.Voted (None ∷ None ∷ [])) ∷
    line.Vote 2 (codes "t1") (vote_text.Voted (None ∷ None ∷ [])) ∷
    line.Cert (codes "t1") (cert_text.Formed (0 ∷ 1 ∷ 2 ∷ [])) ∷
    line.Send 0 (codes "t1") send_text.Held ∷
    line.Run 0 (run_text.Executed 1) ∷
    line.Failed (codes "t1") 0 5 2 1100 ∷
    line.Show 0 (show_text.Shown 0 2) ∷
    line.Object (codes "g0") 2 (owner_text.Address (codes "alice")) (content_text.Coin 0 8900) ∷
    line.Object (codes "g1") 2 (owner_text.Address (codes "alice")) (content_text.Coin 0 700) ∷ []

pub record BlocksWithCoins : Type 0 where
  pub sent : Reports sent_lines sent_events sent_report
  pub merged : Reports merged_lines merged_events merged_report
  pub nothing_joined : Reports nothing_joined_lines nothing_joined_events nothing_joined_report
  pub left_over : Reports left_over_lines left_over_events left_over_report
  pub gas_by_value : Reports gas_by_value_lines gas_by_value_events gas_by_value_report
