-- Each case in which a member does not vote.
use Rattle.std.specs.Prelude.{List, [], ◌∷◌, true, false, None, codes}
use Rattle.schedule_text.specs.declared.words.Setup.{Setup}
use Rattle.schedule_text.specs.declared.words.Setup.TheVariants as setup
use Rattle.schedule_text.specs.declared.words.Event.{Event}
use Rattle.schedule_text.specs.declared.words.Event.TheVariants as event
use Rattle.schedule_text.specs.declared.words.ObjWord.TheVariants as object_word
use Rattle.schedule_text.specs.declared.words.InputWord.TheVariants as input_word
use Rattle.schedule_text.specs.declared.words.ArgWord.TheVariants as arg_word
use Rattle.schedule_text.specs.declared.words.CommandWord.TheVariants as command_word
use Rattle.report_text.specs.declared.lines.Line.{Line}
use Rattle.report_text.specs.declared.lines.Line.TheVariants as line
use Rattle.report_text.specs.declared.lines.VoteText.TheVariants as vote_text
use Rattle.report_text.specs.declared.lines.CertText.TheVariants as cert_text
use Rattle.report_text.specs.declared.lines.SendText.TheVariants as send_text
use Rattle.report_text.specs.declared.lines.RunText.TheVariants as run_text
use Rattle.rows_law.specs.Reported.{Reports}

abbrev pub absent_lines : List Setup
absent_lines =
    setup.Member 1 true ∷
    setup.Member 1 true ∷
    setup.Member 1 true ∷
    setup.Member 1 true ∷
    setup.Coin (codes "g0") (codes "alice") 10000 ∷
    setup.Counter (codes "c0") 5 ∷ []

abbrev pub absent_events : List Event
absent_events =
    event.Tx (codes "t2") (codes "alice") false 0 (record { object = (object_word.Setup (codes "g0")); version = 2; spoiled = false }) 2000 (input_word.Address (codes "bob") ∷ []) (command_word.Transfer (arg_word.Gas ∷ arg_word.Input 0 ∷ []) ∷ []) ∷
    event.Vote 0 (codes "t2") ∷ []

abbrev pub absent_report : List Line
absent_report =
    line.TxMade (codes "t2") ∷
    line.Vote 0 (codes "t2") (vote_text.Absent (codes "g0@2")) ∷ []

abbrev pub digest_lines : List Setup
digest_lines =
    setup.Member 1 true ∷
    setup.Member 1 true ∷
    setup.Member 1 true ∷
    setup.Member 1 true ∷
    setup.Coin (codes "g0") (codes "alice") 10000 ∷
    setup.Counter (codes "c0") 5 ∷ []

abbrev pub digest_events : List Event
digest_events =
    event.Tx (codes "t2") (codes "alice") false 0 (record { object = (object_word.Setup (codes "g0")); version = 1; spoiled = true }) 2000 (input_word.Address (codes "bob") ∷ []) (command_word.Transfer (arg_word.Gas ∷ arg_word.Input 0 ∷ []) ∷ []) ∷
    event.Vote 0 (codes "t2") ∷ []

abbrev pub digest_report : List Line
digest_report =
    line.TxMade (codes "t2") ∷
    line.Vote 0 (codes "t2") (vote_text.WrongDigest (codes "g0@1")) ∷ []

abbrev pub owner_lines : List Setup
owner_lines =
    setup.Member 1 true ∷
    setup.Member 1 true ∷
    setup.Member 1 true ∷
    setup.Member 1 true ∷
    setup.Coin (codes "g0") (codes "alice") 10000 ∷
    setup.Counter (codes "c0") 5 ∷ []

abbrev pub owner_events : List Event
owner_events =
    event.Tx (codes "t2") (codes "carol") false 0 (record { object = (object_word.Setup (codes "g0")); version = 1; spoiled = false }) 2000 (input_word.Address (codes "bob") ∷ []) (command_word.Transfer (arg_word.Gas ∷ arg_word.Input 0 ∷ []) ∷ []) ∷
    event.Vote 0 (codes "t2") ∷ []

abbrev pub owner_report : List Line
owner_report =
    line.TxMade (codes "t2") ∷
    line.Vote 0 (codes "t2") (vote_text.WrongOwner (codes "g0@1")) ∷ []

abbrev pub poor_lines : List Setup
poor_lines =
    setup.Member 1 true ∷
    setup.Member 1 true ∷
    setup.Member 1 true ∷
    setup.Member 1 true ∷
    setup.Coin (codes "g0") (codes "alice") 10000 ∷
    setup.Counter (codes "c0") 5 ∷ []

abbrev pub poor_events : List Event
poor_events =
    event.Tx (codes "t2") (codes "alice") false 0 (record { object = (object_word.Setup (codes "g0")); version = 1; spoiled = false }) 20000 (input_word.Address (codes "bob") ∷ []) (command_word.Transfer (arg_word.Gas ∷ arg_word.Input 0 ∷ []) ∷ []) ∷
    event.Vote 0 (codes "t2") ∷ []

abbrev pub poor_report : List Line
poor_report =
    line.TxMade (codes "t2") ∷
    line.Vote 0 (codes "t2") (vote_text.PoorGas 10000 20000) ∷ []

abbrev pub budget_lines : List Setup
budget_lines =
    setup.Member 1 true ∷
    setup.Member 1 true ∷
    setup.Member 1 true ∷
    setup.Member 1 true ∷
    setup.Coin (codes "g0") (codes "alice") 10000 ∷
    setup.Counter (codes "c0") 5 ∷ []

abbrev pub budget_events : List Event
budget_events =
    event.Tx (codes "t2") (codes "alice") false 0 (record { object = (object_word.Setup (codes "g0")); version = 1; spoiled = false }) 1000 (input_word.Address (codes "bob") ∷ []) (command_word.Transfer (arg_word.Gas ∷ arg_word.Input 0 ∷ []) ∷ []) ∷
    event.Vote 0 (codes "t2") ∷ []

abbrev pub budget_report : List Line
budget_report =
    line.TxMade (codes "t2") ∷
    line.Vote 0 (codes "t2") (vote_text.Invalid 10) ∷ []

abbrev pub epoch_lines : List Setup
epoch_lines =
    setup.Member 1 true ∷
    setup.Member 1 true ∷
    setup.Member 1 true ∷
    setup.Member 1 true ∷
    setup.Coin (codes "g0") (codes "alice") 10000 ∷
    setup.Counter (codes "c0") 5 ∷ []

abbrev pub epoch_events : List Event
epoch_events =
    event.Tx (codes "t2") (codes "alice") false 1 (record { object = (object_word.Setup (codes "g0")); version = 1; spoiled = false }) 2000 (input_word.Address (codes "bob") ∷ []) (command_word.Transfer (arg_word.Gas ∷ arg_word.Input 0 ∷ []) ∷ []) ∷
    event.Vote 0 (codes "t2") ∷ []

abbrev pub epoch_report : List Line
epoch_report =
    line.TxMade (codes "t2") ∷
    line.Vote 0 (codes "t2") (vote_text.WrongEpoch 1 0) ∷ []

abbrev pub seal_lines : List Setup
seal_lines =
    setup.Member 1 true ∷
    setup.Member 1 true ∷
    setup.Member 1 true ∷
    setup.Member 1 true ∷
    setup.Coin (codes "g0") (codes "alice") 10000 ∷
    setup.Counter (codes "c0") 5 ∷ []

abbrev pub seal_events : List Event
seal_events =
    event.Tx (codes "t2") (codes "alice") true 0 (record { object = (object_word.Setup (codes "g0")); version = 1; spoiled = false }) 2000 (input_word.Address (codes "bob") ∷ []) (command_word.Transfer (arg_word.Gas ∷ arg_word.Input 0 ∷ []) ∷ []) ∷
    event.Vote 0 (codes "t2") ∷ []

abbrev pub seal_report : List Line
seal_report =
    line.TxMade (codes "t2") ∷
    line.Vote 0 (codes "t2") vote_text.Unsealed ∷ []

abbrev pub gas_kind_lines : List Setup
gas_kind_lines =
    setup.Member 1 true ∷
    setup.Member 1 true ∷
    setup.Member 1 true ∷
    setup.Member 1 true ∷
    setup.Coin (codes "g0") (codes "alice") 10000 ∷
    setup.Counter (codes "c0") 5 ∷ []

abbrev pub gas_kind_events : List Event
gas_kind_events =
    event.Tx (codes "t2") (codes "alice") false 0 (record { object = (object_word.Setup (codes "c0")); version = 1; spoiled = false }) 2000 (input_word.Address (codes "bob") ∷ []) (command_word.Transfer (arg_word.Gas ∷ arg_word.Input 0 ∷ []) ∷ []) ∷
    event.Vote 0 (codes "t2") ∷ []

abbrev pub gas_kind_report : List Line
gas_kind_report =
    line.TxMade (codes "t2") ∷
    line.Vote 0 (codes "t2") (vote_text.WrongKind (codes "c0@1")) ∷ []

abbrev pub consumed_lines : List Setup
consumed_lines =
    setup.Member 1 true ∷
    setup.Member 1 true ∷
    setup.Member 1 true ∷
    setup.Member 1 true ∷
    setup.Coin (codes "g0") (codes "alice") 10000 ∷ []

abbrev pub consumed_events : List Event
consumed_events =
    event.Tx (codes "t1") (codes "alice") false 0 (record { object = (object_word.Setup (codes "g0")); version = 1; spoiled = false }) 2000 (input_word.Number 500 ∷ input_word.Address (codes "bob") ∷ []) (command_word.Split (arg_word.Gas ∷ arg_word.Input 0 ∷ []) ∷ command_word.Transfer (arg_word.Result 0 ∷ arg_word.Input 1 ∷ []) ∷ []) ∷
    event.Vote 0 (codes "t1") ∷
    event.Vote 1 (codes "t1") ∷
    event.Vote 2 (codes "t1") ∷
    event.Cert (codes "t1") (0 ∷ 1 ∷ 2 ∷ []) ∷
    event.Send 0 (codes "t1") ∷
    event.Run 0 2 ∷
    event.Tx (codes "t2") (codes "alice") false 0 (record { object = (object_word.Setup (codes "g0")); version = 1; spoiled = false }) 2000 (input_word.Address (codes "bob") ∷ []) (command_word.Transfer (arg_word.Gas ∷ arg_word.Input 0 ∷ []) ∷ []) ∷
    event.Vote 0 (codes "t2") ∷ []

abbrev pub consumed_report : List Line
consumed_report =
    line.TxMade (codes "t1") ∷
    line.Vote 0 (codes "t1") (vote_text.Voted (None ∷ [])) ∷
    line.Vote 1 (codes "t1") (vote_text.Voted (None ∷ [])) ∷
    line.Vote 2 (codes "t1") (vote_text.Voted (None ∷ [])) ∷
    line.Cert (codes "t1") (cert_text.Formed (0 ∷ 1 ∷ 2 ∷ [])) ∷
    line.Send 0 (codes "t1") send_text.Held ∷
    line.Run 0 (run_text.Executed 1) ∷
    line.Done (codes "t1") 2 1200 ∷
    line.TxMade (codes "t2") ∷
    line.Vote 0 (codes "t2") (vote_text.Consumed (codes "g0@1") (codes "t1")) ∷ []

abbrev pub malformed_lines : List Setup
malformed_lines =
    setup.Member 1 true ∷
    setup.Member 1 true ∷
    setup.Member 1 true ∷
    setup.Member 1 true ∷
    setup.Coin (codes "g0") (codes "alice") 10000 ∷ []

abbrev pub malformed_events : List Event
malformed_events =
    event.RawVote 0 (0 ∷ []) ∷ []

abbrev pub malformed_report : List Line
malformed_report =
    line.RawVote 0 (vote_text.Malformed 0 1) ∷ []

pub record VotesAreRefused : Type 0 where
  pub absent : Reports absent_lines absent_events absent_report
  pub digest : Reports digest_lines digest_events digest_report
  pub owner : Reports owner_lines owner_events owner_report
  pub poor : Reports poor_lines poor_events poor_report
  pub budget : Reports budget_lines budget_events budget_report
  pub epoch : Reports epoch_lines epoch_events epoch_report
  pub seal : Reports seal_lines seal_events seal_report
  pub gas_kind : Reports gas_kind_lines gas_kind_events gas_kind_report
  pub consumed : Reports consumed_lines consumed_events consumed_report
  pub malformed : Reports malformed_lines malformed_events malformed_report
