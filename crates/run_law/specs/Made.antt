-- The schedule that the generator's text says, of `number` transactions, with a late member that runs on `workers`
-- threads. Source: this profile.
use Rattle.std.specs.Prelude.{◌==◌, ℕ, ◌+◌, ◌-◌, ◌%◌, true, false, List, [], ◌∷◌, ◌++◌, map, codes, decimal, if◌then◌else◌}
use Rattle.std.specs.List.{flat_map, range_with_len}
use Rattle.schedule_text.specs.declared.words.Schedule.{Schedule}
use Rattle.schedule_text.specs.declared.words.Setup.{Setup}
use Rattle.schedule_text.specs.declared.words.Setup.TheVariants as setup
use Rattle.schedule_text.specs.declared.words.Event.{Event}
use Rattle.schedule_text.specs.declared.words.Event.TheVariants as event
use Rattle.schedule_text.specs.declared.words.ObjWord.{ObjWord}
use Rattle.schedule_text.specs.declared.words.ObjWord.TheVariants as object
use Rattle.schedule_text.specs.declared.words.RefWord.{RefWord}
use Rattle.schedule_text.specs.declared.words.InputWord.TheVariants as input
use Rattle.schedule_text.specs.declared.words.ArgWord.TheVariants as arg
use Rattle.schedule_text.specs.declared.words.CommandWord.TheVariants as command

abbrev pub transaction : ℕ → List ℕ
transaction k = codes "t" ++ decimal k

abbrev pub coin : ℕ → List ℕ
coin k = codes "g" ++ decimal k

abbrev pub counter : List ℕ
counter = codes "c0"

-- four members of stake 1
abbrev pub member_items : List Setup
member_items = setup.Member 1 true ∷ setup.Member 1 true ∷ setup.Member 1 true ∷ setup.Member 1 true ∷ []

-- the second of each four coins is u1's
abbrev pub coin_item : ℕ → Setup
coin_item k = if k % 4 == 1 then setup.Coin (coin k) (codes "u1") 1000000 else setup.Coin (coin k) (codes "u0") 1000000

abbrev pub items : ℕ → List Setup
items number = member_items ++ map coin_item (range_with_len 0 number) ++ setup.Counter counter 0 ∷ []

abbrev pub plain_ref : ObjWord → ℕ → RefWord
plain_ref o version = record { object = o; version = version; spoiled = false }

abbrev pub gas_of : ℕ → RefWord
gas_of k = plain_ref (object.Setup (coin k)) 1

-- the event of transaction `k` of the first shape: it splits a coin off the gas coin and sends it
abbrev pub split_event : ℕ → Event
split_event k =
    event.Tx (transaction k) (codes "u0") false 0 (gas_of k) 2000 (input.Number 5 ∷ input.Address (codes "u1") ∷ [])
    (command.Split (arg.Gas ∷ arg.Input 0 ∷ []) ∷ command.Transfer (arg.Result 0 ∷ arg.Input 1 ∷ []) ∷ [])

-- the event of transaction `k` of the second shape: it sends back the coin that transaction `k - 1` created
abbrev pub spend_event : ℕ → Event
spend_event k =
    event.Tx (transaction k) (codes "u1") false 0 (gas_of k) 2000
    (input.Owned (plain_ref (object.Created (transaction (k - 1)) 0) 2) ∷ input.Address (codes "u0") ∷ [])
    (command.Transfer (arg.Input 0 ∷ arg.Input 1 ∷ []) ∷ [])

-- the event of transaction `k` of the third shape: it raises the counter (native 5 is `counter_add`)
abbrev pub write_event : ℕ → Event
write_event k =
    event.Tx (transaction k) (codes "u0") false 0 (gas_of k) 2000 (input.Number 1 ∷ input.Shared (object.Setup counter) 1 true ∷ [])
    (command.Call 5 (arg.Input 1 ∷ arg.Input 0 ∷ []) ∷ [])

-- the event of transaction `k` of the fourth shape: it reads the counter (native 6 is `counter_require`)
abbrev pub read_event : ℕ → Event
read_event k =
    event.Tx (transaction k) (codes "u0") false 0 (gas_of k) 2000 (input.Number 0 ∷ input.Shared (object.Setup counter) 1 false ∷ [])
    (command.Call 6 (arg.Input 1 ∷ arg.Input 0 ∷ []) ∷ [])

-- the event of transaction `k`: one of the four shapes in turn
abbrev pub tx_event : ℕ → Event
tx_event k =
    if k % 4 == 0 then split_event k
    else (if k % 4 == 1 then spend_event k
    else (if k % 4 == 2 then write_event k
    else read_event k))

-- the events by which members 0 to 2 vote for transaction `k`, and its certificate is formed
abbrev pub vote_events : ℕ → List Event
vote_events k =
    event.Vote 0 (transaction k) ∷ event.Vote 1 (transaction k) ∷ event.Vote 2 (transaction k)
    ∷ event.Cert (transaction k) (0 ∷ 1 ∷ 2 ∷ []) ∷ []

-- the events by which members 0 to 2 take the certificate of transaction `k`, and execute it before it is in the
-- sequence
abbrev pub send_events : ℕ → List Event
send_events k =
    event.Send 0 (transaction k) ∷ event.Run 0 1 ∷ event.Send 1 (transaction k) ∷ event.Run 1 1
    ∷ event.Send 2 (transaction k) ∷ event.Run 2 1 ∷ []

-- the events after transaction `k`: its votes, its certificate, and its early execution if it is the first of four
abbrev pub after_tx : ℕ → List Event
after_tx k = if k % 4 == 0 then vote_events k ++ send_events k else vote_events k

abbrev pub certified : ℕ → List Event
certified k = tx_event k ∷ after_tx k

-- the event that orders transaction `k`, and a mark after each 64 of them
abbrev pub ordered : ℕ → List Event
ordered k =
    if (k + 1) % 64 == 0
    then event.Order (transaction k) ∷ event.OrderCommit ∷ []
    else event.Order (transaction k) ∷ []

-- the events by which the late member 3 takes the whole sequence and executes it
abbrev pub late : ℕ → List Event
late workers = event.See 3 65535 ∷ event.Run 3 workers ∷ []

-- the last events: members 0 to 2 take the sequence and end the epoch, all four turn, and member 0 is shown
abbrev pub ending : List Event
ending =
    event.See 0 65535 ∷ event.Run 0 1 ∷ event.See 1 65535 ∷ event.Run 1 1 ∷ event.See 2 65535 ∷ event.Run 2 1
    ∷ event.Close 0 ∷ event.End 0 ∷ event.OrderEnd 0 ∷ event.Close 1 ∷ event.End 1 ∷ event.OrderEnd 1
    ∷ event.Close 2 ∷ event.End 2 ∷ event.OrderEnd 2
    ∷ event.See 0 3 ∷ event.Turn 0 ∷ event.See 1 3 ∷ event.Turn 1 ∷ event.See 2 3 ∷ event.Turn 2 ∷ event.See 3 3 ∷ event.Turn 3
    ∷ event.Show 0 ∷ []

-- the events after all transactions are certified
abbrev pub rest : ℕ → ℕ → List Event
rest number workers = flat_map ordered (range_with_len 0 number) ++ (late workers ++ ending)

abbrev pub made : ℕ → ℕ → Schedule
made number workers = record { setup = items number; events = flat_map certified (range_with_len 0 number) ++ rest number workers }
