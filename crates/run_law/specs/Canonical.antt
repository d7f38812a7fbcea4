-- The canonical text of a schedule: a line for each set-up item and then for each event, its words between single
-- spaces, and a line feed after each line. Source: this profile.
use Rattle.std.specs.Prelude.{ℕ, Bool, true, false, List, [], ◌∷◌, ◌++◌, map, Option, Some, None, codes, decimal, unwrap_or, slice_get}
use Rattle.std.specs.List.{flat_map, join_with_byte}
use Rattle.hex.specs.Hex.{encode_lower}
use Rattle.schedule_text.specs.declared.words.Schedule.{Schedule}
use Rattle.schedule_text.specs.declared.words.Setup.{Setup}
use Rattle.schedule_text.specs.declared.words.Setup.TheVariants as setup
use Rattle.schedule_text.specs.declared.words.Event.{Event}
use Rattle.schedule_text.specs.declared.words.Event.TheVariants as event
use Rattle.schedule_text.specs.declared.words.ObjWord.{ObjWord}
use Rattle.schedule_text.specs.declared.words.ObjWord.TheVariants as object
use Rattle.schedule_text.specs.declared.words.RefWord.{RefWord}
use Rattle.schedule_text.specs.declared.words.InputWord.{InputWord}
use Rattle.schedule_text.specs.declared.words.InputWord.TheVariants as input
use Rattle.schedule_text.specs.declared.words.ArgWord.{ArgWord}
use Rattle.schedule_text.specs.declared.words.ArgWord.TheVariants as arg
use Rattle.schedule_text.specs.declared.words.CommandWord.{CommandWord}
use Rattle.schedule_text.specs.declared.words.CommandWord.TheVariants as command
use Rattle.schedule_text.specs.declared.statement.Statement.{Statement}
use Rattle.schedule_text.specs.declared.statement.Statement.TheVariants as statement
use Rattle.schedule_text.specs.Commands.{native_names, kind_names}

-- a mark like `!` or `?` if the flag is set, else nothing
abbrev pub sign : Bool → List ℕ → List ℕ
sign true text = text
sign false text = []

-- the name with this number, and nothing past the end
abbrev pub name_at : List (List ℕ) → ℕ → List ℕ
name_at names number = unwrap_or (slice_get names number) []

abbrev pub object_word : ObjWord → List ℕ
object_word (object.Setup name) = name
object_word (object.Created tx number) = tx ++ (codes "." ++ decimal number)

abbrev pub version_word : ObjWord → ℕ → List ℕ
version_word o version = object_word o ++ (codes "@" ++ decimal version)

abbrev pub ref_word : RefWord → List ℕ
ref_word r = object_word r.object ++ (codes "@" ++ (decimal r.version ++ sign r.spoiled (codes "!")))

abbrev pub input_word : InputWord → List ℕ
input_word (input.Number n) = codes "n:" ++ decimal n
input_word (input.Address name) = codes "a:" ++ name
input_word (input.Bytes bytes) = codes "x:" ++ encode_lower bytes
input_word (input.Owned r) = codes "o:" ++ ref_word r
input_word (input.Immutable r) = codes "i:" ++ ref_word r
input_word (input.Shared o initial true) = codes "s:" ++ version_word o initial
input_word (input.Shared o initial false) = codes "r:" ++ version_word o initial

abbrev pub arg_word : ArgWord → List ℕ
arg_word arg.Gas = codes "gas"
arg_word (arg.Input n) = codes "i" ++ decimal n
arg_word (arg.Result n) = codes "r" ++ decimal n
arg_word (arg.Nested n k) = codes "r" ++ (decimal n ++ (codes "." ++ decimal k))

-- a command word: a name, and the words between commas in parentheses
abbrev pub call_word : List ℕ → List (List ℕ) → List ℕ
call_word name words = name ++ (codes "(" ++ (join_with_byte 44 words ++ codes ")"))

abbrev pub command_word : CommandWord → List ℕ
command_word (command.Split args) = call_word (codes "split") (map arg_word args)
command_word (command.Merge args) = call_word (codes "merge") (map arg_word args)
command_word (command.Transfer args) = call_word (codes "transfer") (map arg_word args)
command_word (command.MakeVec kind values) = call_word (codes "vec") (name_at kind_names kind ∷ map arg_word values)
command_word (command.Call native args) = call_word (name_at native_names native) (map arg_word args)

abbrev pub role_word : Bool → List ℕ
role_word true = codes "honest"
role_word false = codes "faulty"

abbrev pub kept_word : Bool → List ℕ
kept_word true = codes "kept"
kept_word false = codes "lost"

abbrev pub origin_word : Option (List ℕ) → List ℕ
origin_word None = codes "-"
origin_word (Some tx) = tx

abbrev pub spoiled_words : Bool → List (List ℕ)
spoiled_words true = codes "!" ∷ []
spoiled_words false = []

abbrev pub setup_words : Setup → List (List ℕ)
setup_words (setup.Member stake honest) = codes "member" ∷ decimal stake ∷ role_word honest ∷ []
setup_words (setup.Coin name owner balance) = codes "coin" ∷ name ∷ owner ∷ decimal balance ∷ []
setup_words (setup.Counter name value) = codes "counter" ∷ name ∷ decimal value ∷ []
setup_words (setup.Cap name owner currency) = codes "cap" ∷ name ∷ owner ∷ decimal currency ∷ []
setup_words (setup.Writers limit) = codes "writers" ∷ decimal limit ∷ []

abbrev pub event_words : Event → List (List ℕ)
event_words (event.Tx name sender spoiled epoch gas budget inputs commands) =
    codes "tx" ∷ name ∷ (sender ++ sign spoiled (codes "?")) ∷ decimal epoch ∷ ref_word gas ∷ decimal budget
    ∷ (map input_word inputs ++ map command_word commands)
event_words (event.Vote member tx) = codes "vote" ∷ decimal member ∷ tx ∷ []
event_words (event.Fvote member tx origins) = codes "fvote" ∷ decimal member ∷ tx ∷ map origin_word origins
event_words (event.Cert tx members) = codes "cert" ∷ tx ∷ map decimal members
event_words (event.Send member tx) = codes "send" ∷ decimal member ∷ tx ∷ []
event_words (event.Order tx) = codes "order" ∷ tx ∷ []
event_words (event.OrderEnd member) = codes "order" ∷ codes "end" ∷ decimal member ∷ []
event_words event.OrderCommit = codes "order" ∷ codes "commit" ∷ []
event_words (event.See member entries) = codes "see" ∷ decimal member ∷ decimal entries ∷ []
event_words (event.Run member workers) = codes "run" ∷ decimal member ∷ decimal workers ∷ []
event_words (event.Close member) = codes "close" ∷ decimal member ∷ []
event_words (event.End member) = codes "end" ∷ decimal member ∷ []
event_words (event.Turn member) = codes "turn" ∷ decimal member ∷ []
event_words (event.Show member) = codes "show" ∷ decimal member ∷ []
event_words (event.Stop member kept) = codes "stop" ∷ decimal member ∷ kept_word kept ∷ []
event_words (event.Restart member) = codes "restart" ∷ decimal member ∷ []
event_words (event.RawVote member bytes) = codes "raw" ∷ decimal member ∷ codes "vote" ∷ encode_lower bytes ∷ []
event_words (event.RawHold member bytes) = codes "raw" ∷ decimal member ∷ codes "hold" ∷ encode_lower bytes ∷ []
event_words (event.Ack member tx spoiled) = codes "ack" ∷ decimal member ∷ tx ∷ spoiled_words spoiled
event_words (event.Final tx members) = codes "final" ∷ tx ∷ map decimal members

abbrev pub statement_words : Statement → List (List ℕ)
statement_words (statement.Setup x) = setup_words x
statement_words (statement.Event e) = event_words e

-- a line without its line feed
abbrev pub line_text : Statement → List ℕ
line_text x = join_with_byte 32 (statement_words x)

-- the lines of a schedule, in order
abbrev pub statements : Schedule → List Statement
statements s = map (λ x. statement.Setup x) s.setup ++ map (λ e. statement.Event e) s.events

abbrev pub text_of : List Statement → List ℕ
text_of lines = flat_map (λ x. line_text x ++ 10 ∷ []) lines

abbrev pub canonical : Schedule → List ℕ
canonical s = text_of (statements s)
