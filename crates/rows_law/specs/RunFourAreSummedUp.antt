-- The made schedule of four transactions and its summary.
use Rattle.std.specs.Prelude.{◌≡◌, List, [], ◌∷◌, true, false, codes}
use Rattle.schedule_text.specs.declared.words.Setup.{Setup}
use Rattle.schedule_text.specs.declared.words.Setup.TheVariants as setup
use Rattle.schedule_text.specs.declared.words.Event.{Event}
use Rattle.schedule_text.specs.declared.words.Event.TheVariants as event
use Rattle.schedule_text.specs.declared.words.ObjWord.TheVariants as object_word
use Rattle.schedule_text.specs.declared.words.InputWord.TheVariants as input_word
use Rattle.schedule_text.specs.declared.words.ArgWord.TheVariants as arg_word
use Rattle.schedule_text.specs.declared.words.CommandWord.TheVariants as command_word
use Rattle.report_text.specs.declared.lines.Line.TheVariants as line
use Rattle.world_spec.specs.Keyed.{keyed, program_secret}
use Rattle.world_spec.specs.Setting.{setting_of}
use Rattle.world_spec.specs.Run.{summary}

abbrev pub lines : List Setup
lines =
    setup.Member 1 true ∷
    setup.Member 1 true ∷
    setup.Member 1 true ∷
    setup.Member 1 true ∷
    setup.Coin (codes "g0") (codes "u0") 1000000 ∷
    setup.Coin (codes "g1") (codes "u1") 1000000 ∷
    setup.Coin (codes "g2") (codes "u0") 1000000 ∷
    setup.Coin (codes "g3") (codes "u0") 1000000 ∷
    setup.Counter (codes "c0") 0 ∷ []

abbrev pub events : List Event
events =
    event.Tx (codes "t0") (codes "u0") false 0 (record { object = object_word.Setup (codes "g0"); version = 1; spoiled = false }) 2000 (input_word.Number 5 ∷ input_word.Address (codes "u1") ∷ []) (command_word.Split (arg_word.Gas ∷ arg_word.Input 0 ∷ []) ∷ command_word.Transfer (arg_word.Result 0 ∷ arg_word.Input 1 ∷ []) ∷ []) ∷
    event.Vote 0 (codes "t0") ∷
    event.Vote 1 (codes "t0") ∷
    event.Vote 2 (codes "t0") ∷
    event.Cert (codes "t0") (0 ∷ 1 ∷ 2 ∷ []) ∷
    event.Send 0 (codes "t0") ∷
    event.Run 0 1 ∷
    event.Send 1 (codes "t0") ∷
    event.Run 1 1 ∷
    event.Send 2 (codes "t0") ∷
    event.Run 2 1 ∷
    event.Tx (codes "t1") (codes "u1") false 0 (record { object = object_word.Setup (codes "g1"); version = 1; spoiled = false }) 2000 (input_word.Owned (record { object = object_word.Created (codes "t0") 0; version = 2; spoiled = false }) ∷ input_word.Address (codes "u0") ∷ []) (command_word.Transfer (arg_word.Input 0 ∷ arg_word.Input 1 ∷ []) ∷ []) ∷
    event.Vote 0 (codes "t1") ∷
    event.Vote 1 (codes "t1") ∷
    event.Vote 2 (codes "t1") ∷
    event.Cert (codes "t1") (0 ∷ 1 ∷ 2 ∷ []) ∷
    event.Tx (codes "t2") (codes "u0") false 0 (record { object = object_word.Setup (codes "g2"); version = 1; spoiled = false }) 2000 (input_word.Number 1 ∷ input_word.Shared (object_word.Setup (codes "c0")) 1 true ∷ []) (command_word.Call 5 (arg_word.Input 1 ∷ arg_word.Input 0 ∷ []) ∷ []) ∷
    event.Vote 0 (codes "t2") ∷
    event.Vote 1 (codes "t2") ∷
    event.Vote 2 (codes "t2") ∷
    event.Cert (codes "t2") (0 ∷ 1 ∷ 2 ∷ []) ∷
    event.Tx (codes "t3") (codes "u0") false 0 (record { object = object_word.Setup (codes "g3"); version = 1; spoiled = false }) 2000 (input_word.Number 0 ∷ input_word.Shared (object_word.Setup (codes "c0")) 1 false ∷ []) (command_word.Call 6 (arg_word.Input 1 ∷ arg_word.Input 0 ∷ []) ∷ []) ∷
    event.Vote 0 (codes "t3") ∷
    event.Vote 1 (codes "t3") ∷
    event.Vote 2 (codes "t3") ∷
    event.Cert (codes "t3") (0 ∷ 1 ∷ 2 ∷ []) ∷
    event.Order (codes "t0") ∷
    event.Order (codes "t1") ∷
    event.Order (codes "t2") ∷
    event.Order (codes "t3") ∷
    event.See 3 65535 ∷
    event.Run 3 1 ∷
    event.See 0 65535 ∷
    event.Run 0 1 ∷
    event.See 1 65535 ∷
    event.Run 1 1 ∷
    event.See 2 65535 ∷
    event.Run 2 1 ∷
    event.Close 0 ∷
    event.End 0 ∷
    event.OrderEnd 0 ∷
    event.Close 1 ∷
    event.End 1 ∷
    event.OrderEnd 1 ∷
    event.Close 2 ∷
    event.End 2 ∷
    event.OrderEnd 2 ∷
    event.See 0 3 ∷
    event.Turn 0 ∷
    event.See 1 3 ∷
    event.Turn 1 ∷
    event.See 2 3 ∷
    event.Turn 2 ∷
    event.See 3 3 ∷
    event.Turn 3 ∷
    event.Show 0 ∷ []

-- the gas is 1200 and three times 1100; three coins, the sent one, the gas coin of the split and the counter live
abbrev pub FourAreSummedUp : Type 0
FourAreSummedUp = summary (setting_of (keyed program_secret) lines) events 4 ≡ line.Make 4 4 1 6 3995500 ∷ []
