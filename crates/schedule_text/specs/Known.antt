-- What the lines of a schedule so far made known, and when a further line may follow them.
-- The causes are tried in their order. Source: this profile.
use Rattle.std.specs.Prelude.{◌==◌, ℕ, Bool, true, false, not, List, [], ◌∷◌, ◌++◌, length, Option, Some, None, Result, Ok, Err, nat_lt, nat_eq, slice_get, if◌then◌else◌}
use Rattle.std.specs.List.{list_any, filter_map}
use Rattle.std.specs.Str.{bytes_eq}
use Rattle.wire_bcs.specs.Ascending.{ascends}
use Rattle.schedule_text.specs.declared.cause.Cause.{Cause}
use Rattle.schedule_text.specs.declared.cause.Cause.TheVariants as cause
use Rattle.schedule_text.specs.declared.words.Schedule.{Schedule}
use Rattle.schedule_text.specs.declared.words.Setup.{Setup}
use Rattle.schedule_text.specs.declared.words.Setup.TheVariants as setup
use Rattle.schedule_text.specs.declared.words.Event.{Event}
use Rattle.schedule_text.specs.declared.words.Event.TheVariants as event
use Rattle.schedule_text.specs.declared.words.ObjWord.{ObjWord}
use Rattle.schedule_text.specs.declared.words.ObjWord.TheVariants as object
use Rattle.schedule_text.specs.declared.words.InputWord.{InputWord}
use Rattle.schedule_text.specs.declared.words.InputWord.TheVariants as input
use Rattle.schedule_text.specs.declared.statement.Statement.{Statement}
use Rattle.schedule_text.specs.declared.statement.Statement.TheVariants as statement

-- the name is one of these
abbrev pub is_among : List (List ℕ) → List ℕ → Bool
is_among names name = list_any (bytes_eq name) names

-- whether the member is honest, at a line that makes one
abbrev pub role_of : Setup → Option Bool
role_of (setup.Member stake honest) = Some honest
role_of x = None

-- the name that a set-up line gives an object
abbrev pub object_name : Setup → Option (List ℕ)
object_name (setup.Coin name owner balance) = Some name
object_name (setup.Counter name value) = Some name
object_name (setup.Cap name owner currency) = Some name
object_name x = None

abbrev pub currency_of : Setup → Option ℕ
currency_of (setup.Cap name owner currency) = Some currency
currency_of x = None

abbrev pub is_limit : Setup → Bool
is_limit (setup.Writers n) = true
is_limit x = false

-- the name that an event gives a transaction
abbrev pub tx_name : Event → Option (List ℕ)
tx_name (event.Tx name sender spoiled epoch gas budget inputs commands) = Some name
tx_name x = None

unfoldable pub roles : List Setup → List Bool
roles xs = filter_map role_of xs

unfoldable pub object_names : List Setup → List (List ℕ)
object_names xs = filter_map object_name xs

unfoldable pub currencies : List Setup → List ℕ
currencies xs = filter_map currency_of xs

unfoldable pub has_limit : List Setup → Bool
has_limit xs = list_any is_limit xs

unfoldable pub tx_names : List Event → List (List ℕ)
tx_names xs = filter_map tx_name xs

-- the result of checking a line: `Ok` if nothing is wrong, else the cause
abbrev pub Check : Type 0
Check = Result (Unit {0}) Cause

abbrev pub check : Bool → Cause → Check
check true c = Ok tt
check false c = Err c

-- two checks one after the other: the cause of the first if it fails, else the result of the second
abbrev pub also : Check → Check → Check
also (Ok u) next = next
also (Err c) next = Err c

-- a check of each item in order: the cause of the first item that fails
unfoldable pub each_check : {A : Type 0} → (A → Check) → List A → Check
each_check f [] = Ok tt
each_check f (x ∷ xs) = also (f x) (each_check f xs)

-- an earlier line made this transaction
abbrev pub tx_check : Schedule → List ℕ → Check
tx_check s tx = check (is_among (tx_names s.events) tx) cause.UnknownName

-- an earlier line made this object, or the transaction that creates it
abbrev pub object_check : Schedule → ObjWord → Check
object_check s (object.Setup name) = check (is_among (object_names s.setup) name) cause.UnknownName
object_check s (object.Created tx number) = tx_check s tx

abbrev pub input_check : Schedule → InputWord → Check
input_check s (input.Owned r) = object_check s r.object
input_check s (input.Immutable r) = object_check s r.object
input_check s (input.Shared o initial mutable) = object_check s o
input_check s x = Ok tt

abbrev pub origin_check : Schedule → Option (List ℕ) → Check
origin_check s None = Ok tt
origin_check s (Some tx) = tx_check s tx

-- an earlier line made this member
abbrev pub member_check : Schedule → ℕ → Check
member_check s member = check (nat_lt member (length (roles s.setup))) cause.UnknownMember

-- whether a member is there and has this role (true: honest)
abbrev pub role_is : Bool → Option Bool → Bool
role_is honest None = false
role_is true (Some role) = role
role_is false (Some role) = not role

abbrev pub role_check : Bool → Schedule → ℕ → Check
role_check honest s member =
    also (member_check s member) (check (role_is honest (slice_get (roles s.setup) member)) cause.WrongRole)

-- a `cert` or `final` line names a known transaction and known members, which ascend
abbrev pub collect_check : Schedule → List ℕ → List ℕ → Check
collect_check s tx members =
    also (tx_check s tx) (also (each_check (member_check s) members) (check (ascends members) cause.BadOrder))

-- no earlier line gave this name to an object
abbrev pub new_object_check : Schedule → List ℕ → Check
new_object_check s name = check (not (is_among (object_names s.setup) name)) cause.RepeatedName

unfoldable pub setup_kind_check : Schedule → Setup → Check
setup_kind_check s (setup.Member stake honest) = check (nat_lt (length (roles s.setup)) 64) cause.TooManyMembers
setup_kind_check s (setup.Coin name owner balance) = new_object_check s name
setup_kind_check s (setup.Counter name value) = new_object_check s name
setup_kind_check s (setup.Cap name owner currency) =
    also (new_object_check s name) (check (not (list_any (nat_eq currency) (currencies s.setup))) cause.BadOrder)
setup_kind_check s (setup.Writers n) = check (not (has_limit s.setup)) cause.BadOrder

-- a set-up line stands before all events
unfoldable pub setup_check : Schedule → Setup → Check
setup_check s x = also (check (length s.events == 0) cause.LateSetup) (setup_kind_check s x)

-- a `tx` line: there is room for one more transaction, its name is new, and its objects are known
unfoldable pub new_tx_check : Schedule → List ℕ → ObjWord → List InputWord → Check
new_tx_check s name gas inputs =
    also (check (nat_lt (length (tx_names s.events)) 65535) cause.TooManyTransactions)
    (also (check (not (is_among (tx_names s.events) name)) cause.RepeatedName)
    (also (object_check s gas) (each_check (input_check s) inputs)))

-- an `fvote` line: its transaction and origins are known, and its member is faulty
unfoldable pub fvote_check : Schedule → ℕ → List ℕ → List (Option (List ℕ)) → Check
fvote_check s member tx origins =
    also (tx_check s tx) (also (each_check (origin_check s) origins) (role_check false s member))

-- an `ack` line: its transaction and member are known, and only a faulty member spoils its acknowledgement
unfoldable pub ack_check : Schedule → ℕ → List ℕ → Bool → Check
ack_check s member tx spoiled =
    also (tx_check s tx) (if spoiled then role_check false s member else member_check s member)

unfoldable pub event_check : Schedule → Event → Check
event_check s (event.Tx name sender spoiled epoch gas budget inputs commands) =
    new_tx_check s name gas.object inputs
event_check s (event.Vote member tx) = also (tx_check s tx) (role_check true s member)
event_check s (event.Fvote member tx origins) = fvote_check s member tx origins
event_check s (event.Cert tx members) = collect_check s tx members
event_check s (event.Send member tx) = also (tx_check s tx) (role_check true s member)
event_check s (event.Order tx) = tx_check s tx
event_check s (event.OrderEnd member) = member_check s member
event_check s event.OrderCommit = Ok tt
event_check s (event.See member entries) = role_check true s member
event_check s (event.Run member workers) = role_check true s member
event_check s (event.Close member) = role_check true s member
event_check s (event.End member) = role_check true s member
event_check s (event.Turn member) = role_check true s member
event_check s (event.Show member) = role_check true s member
event_check s (event.Stop member kept) = role_check true s member
event_check s (event.Restart member) = role_check true s member
event_check s (event.RawVote member bytes) = role_check true s member
event_check s (event.RawHold member bytes) = role_check true s member
event_check s (event.Ack member tx spoiled) = ack_check s member tx spoiled
event_check s (event.Final tx members) = collect_check s tx members

-- the schedule with one more line, or the cause
abbrev pub after_check : {A : Type 0} → Check → A → Result A Cause
after_check (Ok u) a = Ok a
after_check (Err c) a = Err c

abbrev pub add_setup : Schedule → Setup → Result Schedule Cause
add_setup s x = after_check (setup_check s x) (record s { setup = s.setup ++ x ∷ [] })

abbrev pub add_event : Schedule → Event → Result Schedule Cause
add_event s e = after_check (event_check s e) (record s { events = s.events ++ e ∷ [] })

unfoldable pub add_line : Schedule → Statement → Result Schedule Cause
add_line s (statement.Setup x) = add_setup s x
add_line s (statement.Event e) = add_event s e
