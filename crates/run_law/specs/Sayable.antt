-- The schedules that a text can say: each word has its form and each number its range, the lines may follow one
-- another, and at least one makes a member. Source: this profile.
use Rattle.std.specs.Prelude.{◌≡◌, ℕ, ◌^◌, ◌<◌, ◌≤◌, Bool, true, false, List, [], ◌∷◌, length, Option, Some, None, Result, Ok, Err, codes}
use Rattle.std.specs.List.{list_any, AllByRecursion}
use Rattle.std.specs.Str.{bytes_eq}
use Rattle.schedule_text.specs.declared.cause.Cause.{Cause}
use Rattle.schedule_text.specs.declared.words.Schedule.{Schedule}
use Rattle.schedule_text.specs.declared.words.Setup.{Setup}
use Rattle.schedule_text.specs.declared.words.Setup.TheVariants as setup
use Rattle.schedule_text.specs.declared.words.Event.{Event}
use Rattle.schedule_text.specs.declared.words.Event.TheVariants as event
use Rattle.schedule_text.specs.declared.words.ObjWord.{ObjWord}
use Rattle.schedule_text.specs.declared.words.ObjWord.TheVariants as object
use Rattle.schedule_text.specs.declared.words.RefWord.{RefWord}
use Rattle.schedule_text.specs.declared.words.InputWord.{InputWord}
use Rattle.schedule_text.specs.declared.words.InputWord.TheVariants as input
use Rattle.schedule_text.specs.declared.words.ArgWord.{ArgWord}
use Rattle.schedule_text.specs.declared.words.ArgWord.TheVariants as arg
use Rattle.schedule_text.specs.declared.words.CommandWord.{CommandWord}
use Rattle.schedule_text.specs.declared.words.CommandWord.TheVariants as command
use Rattle.schedule_text.specs.declared.statement.Statement.{Statement}
use Rattle.schedule_text.specs.declared.statement.Statement.TheVariants as statement
use Rattle.schedule_text.specs.Agrees.{no_lines}
use Rattle.schedule_text.specs.Bytes.{is_name}
use Rattle.schedule_text.specs.Commands.{native_names}
use Rattle.schedule_text.specs.Known.{add_line}
use Rattle.run_law.specs.Canonical.{statements}

abbrev pub IsName : List ℕ → Type 0
IsName name = is_name name ≡ true

-- a number of 64 bits
abbrev pub IsNumber : ℕ → Type 0
IsNumber n = n < 2 ^ 64

-- the number of a member, of 32 bits
abbrev pub IsMember : ℕ → Type 0
IsMember m = m < 2 ^ 32

-- a number of this range
abbrev pub IsBetween : ℕ → ℕ → ℕ → Type 0
IsBetween low high n = (low ≤ n) × (n ≤ high)

abbrev pub IsObject : ObjWord → Type 0
IsObject (object.Setup name) = IsName name
IsObject (object.Created tx number) = IsName tx × IsNumber number

abbrev pub IsRef : RefWord → Type 0
IsRef r = IsObject r.object × IsNumber r.version

abbrev pub IsByte : ℕ → Type 0
IsByte b = b < 256

abbrev pub IsInput : InputWord → Type 0
IsInput (input.Number n) = IsNumber n
IsInput (input.Address name) = IsName name
IsInput (input.Bytes bytes) = AllByRecursion IsByte bytes
IsInput (input.Owned r) = IsRef r
IsInput (input.Immutable r) = IsRef r
IsInput (input.Shared o initial mutable) = IsObject o × IsNumber initial

abbrev pub IsArg : ArgWord → Type 0
IsArg arg.Gas = Unit {0}
IsArg (arg.Input n) = n ≤ 65535
IsArg (arg.Result n) = n ≤ 65535
IsArg (arg.Nested n k) = (n ≤ 65535) × (k ≤ 65535)

-- one argument at least
abbrev pub AreArgs : List ArgWord → Type 0
AreArgs args = (0 < length args) × AllByRecursion IsArg args

abbrev pub IsCommand : CommandWord → Type 0
IsCommand (command.Split args) = AreArgs args
IsCommand (command.Merge args) = AreArgs args
IsCommand (command.Transfer args) = AreArgs args
IsCommand (command.MakeVec kind values) = (kind < 6) × AllByRecursion IsArg values
IsCommand (command.Call native args) = (native < length native_names) × AllByRecursion IsArg args

abbrev pub IsOrigin : Option (List ℕ) → Type 0
IsOrigin None = Unit {0}
IsOrigin (Some tx) = IsName tx

-- a transaction, and one member at least
abbrev pub AreMembers : List ℕ → List ℕ → Type 0
AreMembers tx members = IsName tx × (0 < length members) × AllByRecursion IsMember members

-- one byte at least
abbrev pub AreBytes : List ℕ → Type 0
AreBytes bytes = (0 < length bytes) × AllByRecursion IsByte bytes

abbrev pub IsSetup : Setup → Type 0
IsSetup (setup.Member stake honest) = IsBetween 1 4294967295 stake
IsSetup (setup.Coin name owner balance) = IsName name × IsName owner × IsNumber balance
IsSetup (setup.Counter name value) = IsName name × IsNumber value
IsSetup (setup.Cap name owner currency) = IsName name × IsName owner × IsBetween 1 18446744073709551615 currency
IsSetup (setup.Writers limit) = IsBetween 1 65535 limit

abbrev pub IsEvent : Event → Type 0
IsEvent (event.Tx name sender spoiled epoch gas budget inputs commands) =
    IsName name × IsName sender × IsNumber epoch × IsRef gas × IsNumber budget
    × AllByRecursion IsInput inputs × AllByRecursion IsCommand commands
IsEvent (event.Vote member tx) = IsMember member × IsName tx
IsEvent (event.Fvote member tx origins) = IsMember member × IsName tx × AllByRecursion IsOrigin origins
IsEvent (event.Cert tx members) = AreMembers tx members
IsEvent (event.Send member tx) = IsMember member × IsName tx
IsEvent (event.Order tx) = IsName tx × (bytes_eq tx (codes "commit") ≡ false)
IsEvent (event.OrderEnd member) = IsMember member
IsEvent event.OrderCommit = Unit {0}
IsEvent (event.See member entries) = IsMember member × IsBetween 1 4294967295 entries
IsEvent (event.Run member workers) = IsMember member × IsBetween 1 16 workers
IsEvent (event.Close member) = IsMember member
IsEvent (event.End member) = IsMember member
IsEvent (event.Turn member) = IsMember member
IsEvent (event.Show member) = IsMember member
IsEvent (event.Stop member kept) = IsMember member
IsEvent (event.Restart member) = IsMember member
IsEvent (event.RawVote member bytes) = IsMember member × AreBytes bytes
IsEvent (event.RawHold member bytes) = IsMember member × AreBytes bytes
IsEvent (event.Ack member tx spoiled) = IsMember member × IsName tx
IsEvent (event.Final tx members) = AreMembers tx members

abbrev pub IsStatement : Statement → Type 0
IsStatement (statement.Setup x) = IsSetup x
IsStatement (statement.Event e) = IsEvent e

abbrev pub then_read : {A B : Type 0} → Result A Cause → (A → Result B Cause) → Result B Cause
then_read (Ok a) next = next a
then_read (Err c) next = Err c

-- the schedule after more lines
abbrev pub added : Schedule → List Statement → Result Schedule Cause
added s [] = Ok s
added s (x ∷ xs) = then_read (add_line s x) (λ t. added t xs)

abbrev pub makes_member : Setup → Bool
makes_member (setup.Member stake honest) = true
makes_member x = false

pub record IsSayable (s : Schedule) : Type 0 where
  pub words : AllByRecursion IsStatement (statements s)
  pub members : list_any makes_member s.setup ≡ true
  pub order : added no_lines (statements s) ≡ Ok s
