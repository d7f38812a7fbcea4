-- The forms of the lines. The form is tested first, with any digits taken as a number; then each number must be in its
-- range. Source: this profile.
use Rattle.std.specs.Prelude.{◌==◌, ℕ, Bool, true, false, ◌&&◌, ◌||◌, nat_lt, List, [], ◌∷◌, length, Option, Some, None, Result, Ok, Err, min, codes, option_map, option_and_then, if◌then◌else◌}
use Rattle.std.specs.List.{slice_split, list_all}
use Rattle.std.specs.Str.{bytes_eq}
use Rattle.schedule_text.specs.declared.cause.Cause.{Cause}
use Rattle.schedule_text.specs.declared.cause.Cause.TheVariants as cause
use Rattle.schedule_text.specs.declared.words.Setup.TheVariants as setup
use Rattle.schedule_text.specs.declared.words.Event.{Event}
use Rattle.schedule_text.specs.declared.words.Event.TheVariants as event
use Rattle.schedule_text.specs.declared.words.InputWord.{InputWord}
use Rattle.schedule_text.specs.declared.statement.Statement.{Statement}
use Rattle.schedule_text.specs.declared.statement.Statement.TheVariants as statement
use Rattle.schedule_text.specs.Bytes.{is_name, is_digits, number_of, number_in, has_mark, without_mark, with_both, each_of}
use Rattle.schedule_text.specs.Refs.{is_ref, ref_of}
use Rattle.schedule_text.specs.Inputs.{is_hex, hex_of, is_input, input_of}
use Rattle.schedule_text.specs.Commands.{is_command, command_of}

-- the words of a line, between single spaces
abbrev pub words_of : List ℕ → List (List ℕ)
words_of line = slice_split (λ b. b == 32) line

-- a value, or the refusal that a number is bad if there is none
abbrev pub or_bad_number : {A : Type 0} → Option A → Result A Cause
or_bad_number None = Err cause.BadNumber
or_bad_number (Some a) = Ok a

-- the value of words that have the form; the refusal that the form is bad if they do not have it, or that a number is
-- bad if there is no value
abbrev pub if_form : {A : Type 0} → Bool → Option A → Result A Cause
if_form true value = or_bad_number value
if_form false value = Err cause.BadForm

abbrev pub then_make : {A B : Type 0} → (A → B) → Result A Cause → Result B Cause
then_make f (Ok a) = Ok (f a)
then_make f (Err c) = Err c

-- the number of a member; what 32 bits do not hold is read as the greatest that they do,
-- which no member has
unfoldable pub member_number : List ℕ → Option ℕ
member_number word = option_map (λ n. min n 4294967295) (number_of word)

-- a role: honest or not
abbrev pub role_word : List ℕ → Option Bool
role_word word =
    if bytes_eq word (codes "honest") then Some true
    else (if bytes_eq word (codes "faulty") then Some false else None)

abbrev pub member_setup : List ℕ → Option Bool → Result Statement Cause
member_setup stake None = Err cause.BadForm
member_setup stake (Some honest) =
    if_form (is_digits stake) (option_map (λ n. statement.Setup (setup.Member n honest)) (number_in 1 4294967295 stake))

unfoldable pub member_line : List (List ℕ) → Result Statement Cause
member_line (stake ∷ role ∷ []) = member_setup stake (role_word role)
member_line words = Err cause.BadForm

unfoldable pub coin_line : List (List ℕ) → Result Statement Cause
coin_line (name ∷ owner ∷ balance ∷ []) =
    if_form (is_name name && is_name owner && is_digits balance)
    (option_map (λ n. statement.Setup (setup.Coin name owner n)) (number_of balance))
coin_line words = Err cause.BadForm

unfoldable pub counter_line : List (List ℕ) → Result Statement Cause
counter_line (name ∷ value ∷ []) =
    if_form (is_name name && is_digits value)
    (option_map (λ n. statement.Setup (setup.Counter name n)) (number_of value))
counter_line words = Err cause.BadForm

unfoldable pub cap_line : List (List ℕ) → Result Statement Cause
cap_line (name ∷ owner ∷ currency ∷ []) =
    if_form (is_name name && is_name owner && is_digits currency)
    (option_map (λ n. statement.Setup (setup.Cap name owner n)) (number_in 1 18446744073709551615 currency))
cap_line words = Err cause.BadForm

unfoldable pub writers_line : List (List ℕ) → Result Statement Cause
writers_line (limit ∷ []) =
    if_form (is_digits limit) (option_map (λ n. statement.Setup (setup.Writers n)) (number_in 1 65535 limit))
writers_line words = Err cause.BadForm

-- the words from the first one on that is not an input
unfoldable pub after_inputs : List (List ℕ) → List (List ℕ)
after_inputs [] = []
after_inputs (word ∷ words) = if is_input word then after_inputs words else word ∷ words

-- the inputs that the words begin with; none if one of them has a bad number
unfoldable pub front_inputs : List (List ℕ) → Option (List InputWord)
front_inputs [] = Some []
front_inputs (word ∷ words) =
    if is_input word then with_both (input_of word) (front_inputs words) (λ x xs. x ∷ xs) else Some []

-- whether the words are a gas coin and a budget (`REF BUDGET`), then inputs, then commands
unfoldable pub block_form : List (List ℕ) → Bool
block_form (gas ∷ budget ∷ words) = is_ref gas && is_digits budget && list_all is_command (after_inputs words)
block_form words = false

-- the `tx` event of this name, sender and epoch, whose other words are gas coin, budget, inputs and commands
abbrev pub block_words : List ℕ → List ℕ → ℕ → List (List ℕ) → Option Event
block_words name sender epoch (gas ∷ budget ∷ words) =
    option_and_then (λ g. option_and_then (λ b. option_and_then (λ is.
    option_map (λ cs. event.Tx name (without_mark 63 sender) (has_mark 63 sender) epoch g b is cs)
    (each_of command_of (after_inputs words)))
    (front_inputs words)) (number_of budget)) (ref_of gas)
block_words name sender epoch words = None

unfoldable pub block_of : List ℕ → List ℕ → ℕ → List (List ℕ) → Option Event
block_of name sender epoch words = block_words name sender epoch words

unfoldable pub tx_line : List (List ℕ) → Result Event Cause
tx_line (name ∷ sender ∷ epoch ∷ words) =
    if_form (is_name name && is_name (without_mark 63 sender) && is_digits epoch && block_form words)
    (option_and_then (λ e. block_of name sender e words) (number_of epoch))
tx_line words = Err cause.BadForm

-- the values of the words `M T`: a member and a transaction
unfoldable pub member_and_tx : List (List ℕ) → Result (ℕ × List ℕ) Cause
member_and_tx (member ∷ tx ∷ []) =
    if_form (is_digits member && is_name tx) (option_map (λ m. (m, tx)) (member_number member))
member_and_tx words = Err cause.BadForm

-- the value of the word `M`: a member
unfoldable pub member_alone : List (List ℕ) → Result ℕ Cause
member_alone (member ∷ []) = if_form (is_digits member) (member_number member)
member_alone words = Err cause.BadForm

-- the values of the words `M N`: a member, and a number from 1 to `most`
unfoldable pub member_and_number : ℕ → List (List ℕ) → Result (ℕ × ℕ) Cause
member_and_number most (member ∷ number ∷ []) =
    if_form (is_digits member && is_digits number)
    (with_both (member_number member) (number_in 1 most number) (λ m n. (m, n)))
member_and_number most words = Err cause.BadForm

-- the values of the words `T M ..`: a transaction, and one member or more
unfoldable pub tx_and_members : List (List ℕ) → Result (List ℕ × List ℕ) Cause
tx_and_members (tx ∷ members) =
    if_form (is_name tx && nat_lt 0 (length members) && list_all is_digits members)
    (option_map (λ ms. (tx, ms)) (each_of member_number members))
tx_and_members words = Err cause.BadForm

-- whether the word is an origin: `-`, or a transaction's name
abbrev pub is_origin : List ℕ → Bool
is_origin word = bytes_eq word (codes "-") || is_name word

abbrev pub origin_of : List ℕ → Option (List ℕ)
origin_of word = if bytes_eq word (codes "-") then None else Some word

unfoldable pub origins_of : List (List ℕ) → List (Option (List ℕ))
origins_of [] = []
origins_of (word ∷ words) = origin_of word ∷ origins_of words

-- the `fvote` event of the words `M T ..`: a member, a transaction, and origins
unfoldable pub fvote_line : List (List ℕ) → Result Event Cause
fvote_line (member ∷ tx ∷ origins) =
    if_form (is_digits member && is_name tx && list_all is_origin origins)
    (option_map (λ m. event.Fvote m tx (origins_of origins)) (member_number member))
fvote_line words = Err cause.BadForm

-- the `order` event of one word: a transaction's name, or `commit`
unfoldable pub order_tx : List ℕ → Result Event Cause
order_tx tx =
    if bytes_eq tx (codes "commit") then Ok event.OrderCommit else if_form (is_name tx) (Some (event.Order tx))

-- the `order end` event of two words: `end`, and a member
unfoldable pub order_end : List ℕ → List ℕ → Result Event Cause
order_end word member =
    if_form (bytes_eq word (codes "end") && is_digits member) (option_map (λ m. event.OrderEnd m) (member_number member))

unfoldable pub order_line : List (List ℕ) → Result Event Cause
order_line (tx ∷ []) = order_tx tx
order_line (word ∷ member ∷ []) = order_end word member
order_line words = Err cause.BadForm

-- what a stop does with the next record: `kept` is true, `lost` false, and any other word no value
abbrev pub kept_of : List ℕ → Option Bool
kept_of word =
    if bytes_eq word (codes "kept") then Some true
    else (if bytes_eq word (codes "lost") then Some false else None)

abbrev pub stop_event : List ℕ → Option Bool → Result Event Cause
stop_event member None = Err cause.BadForm
stop_event member (Some kept) = if_form (is_digits member) (option_map (λ m. event.Stop m kept) (member_number member))

unfoldable pub stop_line : List (List ℕ) → Result Event Cause
stop_line (member ∷ kept ∷ []) = stop_event member (kept_of kept)
stop_line words = Err cause.BadForm

-- the call that a `raw` line makes: `vote` is true, `hold` false, and any other word no value
abbrev pub call_of : List ℕ → Option Bool
call_of word =
    if bytes_eq word (codes "vote") then Some true
    else (if bytes_eq word (codes "hold") then Some false else None)

abbrev pub raw_value : Bool → ℕ → List ℕ → Event
raw_value true member bytes = event.RawVote member bytes
raw_value false member bytes = event.RawHold member bytes

abbrev pub raw_event : List ℕ → Option Bool → List ℕ → Result Event Cause
raw_event member None bytes = Err cause.BadForm
raw_event member (Some vote) bytes =
    if_form (is_digits member && nat_lt 0 (length bytes) && is_hex bytes)
    (with_both (member_number member) (hex_of bytes) (raw_value vote))

unfoldable pub raw_line : List (List ℕ) → Result Event Cause
raw_line (member ∷ call ∷ bytes ∷ []) = raw_event member (call_of call) bytes
raw_line words = Err cause.BadForm

-- the `ack` event of a member and a transaction, with whether its digest is spoiled
unfoldable pub ack_event : List ℕ → List ℕ → Bool → Result Event Cause
ack_event member tx spoiled =
    if_form (is_digits member && is_name tx) (option_map (λ m. event.Ack m tx spoiled) (member_number member))

unfoldable pub ack_line : List (List ℕ) → Result Event Cause
ack_line (member ∷ tx ∷ []) = ack_event member tx false
ack_line (member ∷ tx ∷ mark ∷ []) = if bytes_eq mark (codes "!") then ack_event member tx true else Err cause.BadForm
ack_line words = Err cause.BadForm

-- the event of a line whose second word is a member
unfoldable pub member_event : List ℕ → List (List ℕ) → Result Event Cause
member_event word words =
    if bytes_eq word (codes "see") then then_make (λ p. event.See p.0 p.1) (member_and_number 4294967295 words)
    else (if bytes_eq word (codes "run") then then_make (λ p. event.Run p.0 p.1) (member_and_number 16 words)
    else (if bytes_eq word (codes "close") then then_make (λ m. event.Close m) (member_alone words)
    else (if bytes_eq word (codes "end") then then_make (λ m. event.End m) (member_alone words)
    else (if bytes_eq word (codes "turn") then then_make (λ m. event.Turn m) (member_alone words)
    else (if bytes_eq word (codes "show") then then_make (λ m. event.Show m) (member_alone words)
    else (if bytes_eq word (codes "restart") then then_make (λ m. event.Restart m) (member_alone words)
    else (if bytes_eq word (codes "stop") then stop_line words
    else (if bytes_eq word (codes "raw") then raw_line words
    else Err cause.BadForm))))))))

-- the event of any event line: those that may name a transaction here, the others by `member_event`
unfoldable pub event_of : List ℕ → List (List ℕ) → Result Event Cause
event_of word words =
    if bytes_eq word (codes "tx") then tx_line words
    else (if bytes_eq word (codes "vote") then then_make (λ p. event.Vote p.0 p.1) (member_and_tx words)
    else (if bytes_eq word (codes "fvote") then fvote_line words
    else (if bytes_eq word (codes "cert") then then_make (λ p. event.Cert p.0 p.1) (tx_and_members words)
    else (if bytes_eq word (codes "send") then then_make (λ p. event.Send p.0 p.1) (member_and_tx words)
    else (if bytes_eq word (codes "order") then order_line words
    else (if bytes_eq word (codes "ack") then ack_line words
    else (if bytes_eq word (codes "final") then then_make (λ p. event.Final p.0 p.1) (tx_and_members words)
    else member_event word words)))))))

-- the set-up line or event that these words are, or cause 4 (bad form) or 5 (bad number)
unfoldable pub statement_of : List (List ℕ) → Result Statement Cause
statement_of [] = Err cause.BadForm
statement_of (word ∷ words) =
    if bytes_eq word (codes "member") then member_line words
    else (if bytes_eq word (codes "coin") then coin_line words
    else (if bytes_eq word (codes "counter") then counter_line words
    else (if bytes_eq word (codes "cap") then cap_line words
    else (if bytes_eq word (codes "writers") then writers_line words
    else then_make (λ e. statement.Event e) (event_of word words)))))
