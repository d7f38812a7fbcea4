-- With half of the stake faulty two certificates consume one coin; a member that meets both halts, even after a restart.
use Rattle.std.specs.Prelude.{List, [], ◌∷◌, true, false, None, codes}
use Rattle.schedule_text.specs.declared.words.Setup.{Setup}
use Rattle.schedule_text.specs.declared.words.Setup.TheVariants as setup
use Rattle.schedule_text.specs.declared.words.Event.{Event}
use Rattle.schedule_text.specs.declared.words.Event.TheVariants as event
use Rattle.schedule_text.specs.declared.words.ObjWord.TheVariants as object_word
use Rattle.schedule_text.specs.declared.words.InputWord.TheVariants as input_word
use Rattle.schedule_text.specs.declared.words.ArgWord.TheVariants as arg_word
use Rattle.schedule_text.specs.declared.words.CommandWord.TheVariants as command_word
use Rattle.report_text.specs.declared.lines.Line.{Line}
use Rattle.report_text.specs.declared.lines.Line.TheVariants as line
use Rattle.report_text.specs.declared.lines.VoteText.TheVariants as vote_text
use Rattle.report_text.specs.declared.lines.CertText.TheVariants as cert_text
use Rattle.report_text.specs.declared.lines.SendText.TheVariants as send_text
use Rattle.report_text.specs.declared.lines.OrderText.TheVariants as order_text
use Rattle.report_text.specs.declared.lines.SeeText.TheVariants as see_text
use Rattle.report_text.specs.declared.lines.EntryText.TheVariants as entry_text
use Rattle.report_text.specs.declared.lines.RestartText.TheVariants as restart_text
use Rattle.rows_law.specs.Reported.{Reports}

abbrev pub sent_lines : List Setup
sent_lines =
    setup.Member 1 true ∷
    setup.Member 1 true ∷
    setup.Member 1 false ∷
    setup.Member 1 false ∷
    setup.Coin (codes "g0") (codes "alice") 10000 ∷ []

abbrev pub sent_events : List Event
sent_events =
    event.Tx (codes "t1") (codes "alice") false 0 (record { object = (object_word.Setup (codes "g0")); version = 1; spoiled = false }) 2000 (input_word.Number 500 ∷ input_word.Address (codes "bob") ∷ []) (command_word.Split (arg_word.Gas ∷ arg_word.Input 0 ∷ []) ∷ command_word.Transfer (arg_word.Result 0 ∷ arg_word.Input 1 ∷ []) ∷ []) ∷
    event.Tx (codes "t2") (codes "alice") false 0 (record { object = (object_word.Setup (codes "g0")); version = 1; spoiled = false }) 2000 (input_word.Address (codes "bob") ∷ []) (command_word.Transfer (arg_word.Gas ∷ arg_word.Input 0 ∷ []) ∷ []) ∷
    event.Vote 0 (codes "t1") ∷
    event.Vote 1 (codes "t2") ∷
    event.Fvote 2 (codes "t1") [] ∷
    event.Fvote 3 (codes "t1") [] ∷
    event.Fvote 2 (codes "t2") [] ∷
    event.Fvote 3 (codes "t2") [] ∷
    event.Cert (codes "t1") (0 ∷ 2 ∷ 3 ∷ []) ∷
    event.Cert (codes "t2") (1 ∷ 2 ∷ 3 ∷ []) ∷
    event.Send 0 (codes "t1") ∷
    event.Send 0 (codes "t2") ∷
    event.Send 0 (codes "t1") ∷
    event.Restart 0 ∷
    event.Send 0 (codes "t1") ∷ []

abbrev pub sent_report : List Line
sent_report =
    line.TxMade (codes "t1") ∷
    line.TxMade (codes "t2") ∷
    line.Vote 0 (codes "t1") (vote_text.Voted (None ∷ [])) ∷
    line.Vote 1 (codes "t2") (vote_text.Voted (None ∷ [])) ∷
    line.Fvote 2 (codes "t1") (None ∷ []) ∷
    line.Fvote 3 (codes "t1") (None ∷ []) ∷
    line.Fvote 2 (codes "t2") (None ∷ []) ∷
    line.Fvote 3 (codes "t2") (None ∷ []) ∷
    line.Cert (codes "t1") (cert_text.Formed (0 ∷ 2 ∷ 3 ∷ [])) ∷
    line.Cert (codes "t2") (cert_text.Formed (1 ∷ 2 ∷ 3 ∷ [])) ∷
    line.Send 0 (codes "t1") send_text.Held ∷
    line.Send 0 (codes "t2") (send_text.Fork (codes "g0@1") (codes "t1") (codes "t2")) ∷
    line.Send 0 (codes "t1") (send_text.Halted (codes "t1") (codes "t2")) ∷
    line.Restart 0 (restart_text.Records 3) ∷
    line.Send 0 (codes "t1") (send_text.Halted (codes "t1") (codes "t2")) ∷ []

abbrev pub seen_lines : List Setup
seen_lines =
    setup.Member 1 true ∷
    setup.Member 1 true ∷
    setup.Member 1 false ∷
    setup.Member 1 false ∷
    setup.Coin (codes "g0") (codes "alice") 10000 ∷ []

abbrev pub seen_events : List Event
seen_events =
    event.Tx (codes "t1") (codes "alice") false 0 (record { object = (object_word.Setup (codes "g0")); version = 1; spoiled = false }) 2000 (input_word.Number 500 ∷ input_word.Address (codes "bob") ∷ []) (command_word.Split (arg_word.Gas ∷ arg_word.Input 0 ∷ []) ∷ command_word.Transfer (arg_word.Result 0 ∷ arg_word.Input 1 ∷ []) ∷ []) ∷
    event.Tx (codes "t2") (codes "alice") false 0 (record { object = (object_word.Setup (codes "g0")); version = 1; spoiled = false }) 2000 (input_word.Address (codes "bob") ∷ []) (command_word.Transfer (arg_word.Gas ∷ arg_word.Input 0 ∷ []) ∷ []) ∷
    event.Vote 0 (codes "t1") ∷
    event.Vote 1 (codes "t2") ∷
    event.Fvote 2 (codes "t1") [] ∷
    event.Fvote 3 (codes "t1") [] ∷
    event.Fvote 2 (codes "t2") [] ∷
    event.Fvote 3 (codes "t2") [] ∷
    event.Cert (codes "t1") (0 ∷ 2 ∷ 3 ∷ []) ∷
    event.Cert (codes "t2") (1 ∷ 2 ∷ 3 ∷ []) ∷
    event.Send 0 (codes "t1") ∷
    event.Order (codes "t2") ∷
    event.See 0 1 ∷
    event.See 0 1 ∷ []

abbrev pub seen_report : List Line
seen_report =
    line.TxMade (codes "t1") ∷
    line.TxMade (codes "t2") ∷
    line.Vote 0 (codes "t1") (vote_text.Voted (None ∷ [])) ∷
    line.Vote 1 (codes "t2") (vote_text.Voted (None ∷ [])) ∷
    line.Fvote 2 (codes "t1") (None ∷ []) ∷
    line.Fvote 3 (codes "t1") (None ∷ []) ∷
    line.Fvote 2 (codes "t2") (None ∷ []) ∷
    line.Fvote 3 (codes "t2") (None ∷ []) ∷
    line.Cert (codes "t1") (cert_text.Formed (0 ∷ 2 ∷ 3 ∷ [])) ∷
    line.Cert (codes "t2") (cert_text.Formed (1 ∷ 2 ∷ 3 ∷ [])) ∷
    line.Send 0 (codes "t1") send_text.Held ∷
    line.Order (codes "t2") (order_text.Entry 0) ∷
    line.SeeEntry 0 0 (entry_text.Fork (codes "g0@1") (codes "t1") (codes "t2")) ∷
    line.See 0 (see_text.Halted (codes "t1") (codes "t2")) ∷ []

pub record AForkHalts : Type 0 where
  pub sent : Reports sent_lines sent_events sent_report
  pub seen : Reports seen_lines seen_events seen_report
