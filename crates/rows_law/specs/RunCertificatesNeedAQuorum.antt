-- A certificate needs a vote of each member that it names, and more than two thirds of the stake.
use Rattle.std.specs.Prelude.{List, [], ◌∷◌, true, false, Some, None, codes}
use Rattle.schedule_text.specs.declared.words.Setup.{Setup}
use Rattle.schedule_text.specs.declared.words.Setup.TheVariants as setup
use Rattle.schedule_text.specs.declared.words.Event.{Event}
use Rattle.schedule_text.specs.declared.words.Event.TheVariants as event
use Rattle.schedule_text.specs.declared.words.ObjWord.TheVariants as object_word
use Rattle.schedule_text.specs.declared.words.InputWord.TheVariants as input_word
use Rattle.schedule_text.specs.declared.words.ArgWord.TheVariants as arg_word
use Rattle.schedule_text.specs.declared.words.CommandWord.TheVariants as command_word
use Rattle.report_text.specs.declared.lines.Line.{Line}
use Rattle.report_text.specs.declared.lines.Line.TheVariants as line
use Rattle.report_text.specs.declared.lines.VoteText.TheVariants as vote_text
use Rattle.report_text.specs.declared.lines.CertText.TheVariants as cert_text
use Rattle.rows_law.specs.Reported.{Reports}

abbrev pub members_lines : List Setup
members_lines =
    setup.Member 1 true ∷
    setup.Member 1 true ∷
    setup.Member 1 true ∷
    setup.Member 1 true ∷
    setup.Coin (codes "g0") (codes "alice") 10000 ∷ []

abbrev pub members_events : List Event
members_events =
    event.Tx (codes "t1") (codes "alice") false 0 (record { object = (object_word.Setup (codes "g0")); version = 1; spoiled = false }) 2000 (input_word.Number 500 ∷ input_word.Address (codes "bob") ∷ []) (command_word.Split (arg_word.Gas ∷ arg_word.Input 0 ∷ []) ∷ command_word.Transfer (arg_word.Result 0 ∷ arg_word.Input 1 ∷ []) ∷ []) ∷
    event.Vote 0 (codes "t1") ∷
    event.Vote 1 (codes "t1") ∷
    event.Cert (codes "t1") (0 ∷ 1 ∷ []) ∷
    event.Cert (codes "t1") (0 ∷ 1 ∷ 2 ∷ []) ∷
    event.Vote 2 (codes "t1") ∷
    event.Cert (codes "t1") (0 ∷ 1 ∷ 2 ∷ []) ∷ []

abbrev pub members_report : List Line
members_report =
    line.TxMade (codes "t1") ∷
    line.Vote 0 (codes "t1") (vote_text.Voted (None ∷ [])) ∷
    line.Vote 1 (codes "t1") (vote_text.Voted (None ∷ [])) ∷
    line.Cert (codes "t1") (cert_text.Short 2 4) ∷
    line.Cert (codes "t1") (cert_text.NoVote 2) ∷
    line.Vote 2 (codes "t1") (vote_text.Voted (None ∷ [])) ∷
    line.Cert (codes "t1") (cert_text.Formed (0 ∷ 1 ∷ 2 ∷ [])) ∷ []

abbrev pub stakes_lines : List Setup
stakes_lines =
    setup.Member 1 true ∷
    setup.Member 1 true ∷
    setup.Member 4 true ∷
    setup.Coin (codes "g0") (codes "alice") 10000 ∷ []

abbrev pub stakes_events : List Event
stakes_events =
    event.Tx (codes "t1") (codes "alice") false 0 (record { object = (object_word.Setup (codes "g0")); version = 1; spoiled = false }) 2000 (input_word.Number 500 ∷ input_word.Address (codes "bob") ∷ []) (command_word.Split (arg_word.Gas ∷ arg_word.Input 0 ∷ []) ∷ command_word.Transfer (arg_word.Result 0 ∷ arg_word.Input 1 ∷ []) ∷ []) ∷
    event.Vote 0 (codes "t1") ∷
    event.Vote 2 (codes "t1") ∷
    event.Cert (codes "t1") (0 ∷ 2 ∷ []) ∷ []

abbrev pub stakes_report : List Line
stakes_report =
    line.TxMade (codes "t1") ∷
    line.Vote 0 (codes "t1") (vote_text.Voted (None ∷ [])) ∷
    line.Vote 2 (codes "t1") (vote_text.Voted (None ∷ [])) ∷
    line.Cert (codes "t1") (cert_text.Formed (0 ∷ 2 ∷ [])) ∷ []

abbrev pub exactly_two_thirds_lines : List Setup
exactly_two_thirds_lines =
    setup.Member 1 true ∷
    setup.Member 1 true ∷
    setup.Member 1 true ∷
    setup.Coin (codes "g0") (codes "alice") 10000 ∷ []

abbrev pub exactly_two_thirds_events : List Event
exactly_two_thirds_events =
    event.Tx (codes "t1") (codes "alice") false 0 (record { object = (object_word.Setup (codes "g0")); version = 1; spoiled = false }) 2000 (input_word.Number 500 ∷ input_word.Address (codes "bob") ∷ []) (command_word.Split (arg_word.Gas ∷ arg_word.Input 0 ∷ []) ∷ command_word.Transfer (arg_word.Result 0 ∷ arg_word.Input 1 ∷ []) ∷ []) ∷
    event.Vote 0 (codes "t1") ∷
    event.Vote 1 (codes "t1") ∷
    event.Cert (codes "t1") (0 ∷ 1 ∷ []) ∷ []

abbrev pub exactly_two_thirds_report : List Line
exactly_two_thirds_report =
    line.TxMade (codes "t1") ∷
    line.Vote 0 (codes "t1") (vote_text.Voted (None ∷ [])) ∷
    line.Vote 1 (codes "t1") (vote_text.Voted (None ∷ [])) ∷
    line.Cert (codes "t1") (cert_text.Short 2 3) ∷ []

abbrev pub origins_lines : List Setup
origins_lines =
    setup.Member 1 true ∷
    setup.Member 1 true ∷
    setup.Member 1 true ∷
    setup.Member 1 false ∷
    setup.Coin (codes "g0") (codes "alice") 10000 ∷ []

abbrev pub origins_events : List Event
origins_events =
    event.Tx (codes "t1") (codes "alice") false 0 (record { object = (object_word.Setup (codes "g0")); version = 1; spoiled = false }) 2000 (input_word.Number 500 ∷ input_word.Address (codes "bob") ∷ []) (command_word.Split (arg_word.Gas ∷ arg_word.Input 0 ∷ []) ∷ command_word.Transfer (arg_word.Result 0 ∷ arg_word.Input 1 ∷ []) ∷ []) ∷
    event.Vote 0 (codes "t1") ∷
    event.Vote 1 (codes "t1") ∷
    event.Fvote 3 (codes "t1") (Some (codes "t1") ∷ []) ∷
    event.Cert (codes "t1") (0 ∷ 1 ∷ 3 ∷ []) ∷ []

abbrev pub origins_report : List Line
origins_report =
    line.TxMade (codes "t1") ∷
    line.Vote 0 (codes "t1") (vote_text.Voted (None ∷ [])) ∷
    line.Vote 1 (codes "t1") (vote_text.Voted (None ∷ [])) ∷
    line.Fvote 3 (codes "t1") (Some (codes "t1") ∷ []) ∷
    line.Cert (codes "t1") (cert_text.Differ 0 3) ∷ []

pub record CertificatesNeedAQuorum : Type 0 where
  pub members : Reports members_lines members_events members_report
  pub stakes : Reports stakes_lines stakes_events stakes_report
  pub exactly_two_thirds : Reports exactly_two_thirds_lines exactly_two_thirds_events exactly_two_thirds_report
  pub origins : Reports origins_lines origins_events origins_report
