-- The command words of a transaction: a name, and arguments in parentheses. Source: this profile.
use Rattle.std.specs.Prelude.{◌==◌, ℕ, Bool, true, false, ◌&&◌, List, [], ◌∷◌, Option, Some, None, option_map, is_some, map, position, codes, if◌then◌else◌}
use Rattle.std.specs.List.{list_all, slice_split}
use Rattle.std.specs.Str.{bytes_eq}
use Rattle.chain_types.specs.declared.natives.TheConstants.{NATIVES}
use Rattle.schedule_text.specs.declared.commands.CommandKind.{CommandKind}
use Rattle.schedule_text.specs.declared.commands.CommandKind.TheVariants as kind
use Rattle.schedule_text.specs.declared.words.ArgWord.{ArgWord}
use Rattle.schedule_text.specs.declared.words.ArgWord.TheVariants as arg
use Rattle.schedule_text.specs.declared.words.CommandWord.{CommandWord}
use Rattle.schedule_text.specs.declared.words.CommandWord.TheVariants as command
use Rattle.schedule_text.specs.Bytes.{is_digits, number_in, cut_at, has_mark, without_mark, with_both, each_of}

-- the number of an input, a result or a value of a result: 0 to 65535
abbrev pub place_of : List ℕ → Option ℕ
place_of word = number_in 0 65535 word

-- whether a word after its `r` has the form `N` or `N.K`, where the second argument is the word cut at its `.`
abbrev pub result_form : List ℕ → Option (List ℕ × List ℕ) → Bool
result_form word None = is_digits word
result_form word (Some p) = is_digits p.0 && is_digits p.1

abbrev pub result_value : List ℕ → Option (List ℕ × List ℕ) → Option ArgWord
result_value word None = option_map (λ n. arg.Result n) (place_of word)
result_value word (Some p) = with_both (place_of p.0) (place_of p.1) (λ n k. arg.Nested n k)

-- `iN`, `rN` or `rN.K`
unfoldable pub is_place : List ℕ → Bool
is_place [] = false
is_place (b ∷ bs) = if b == 105 then is_digits bs else (if b == 114 then result_form bs (cut_at 46 bs) else false)

unfoldable pub place_value : List ℕ → Option ArgWord
place_value [] = None
place_value (b ∷ bs) =
    if b == 105 then option_map (λ n. arg.Input n) (place_of bs)
    else (if b == 114 then result_value bs (cut_at 46 bs) else None)

unfoldable pub is_arg : List ℕ → Bool
is_arg word = if bytes_eq word (codes "gas") then true else is_place word

unfoldable pub arg_of : List ℕ → Option ArgWord
arg_of word = if bytes_eq word (codes "gas") then Some arg.Gas else place_value word

-- the words between commas
abbrev pub comma_parts : List ℕ → List (List ℕ)
comma_parts inside = slice_split (λ b. b == 44) inside

-- the argument words of a native, which may be none: the words between commas, and no word for an empty text
abbrev pub call_words : List ℕ → List (List ℕ)
call_words [] = []
call_words (b ∷ bs) = comma_parts (b ∷ bs)

-- the names of the natives, by number
abbrev pub native_names : List (List ℕ)
native_names = map (λ native. native.0.now) NATIVES

unfoldable pub native_of : List ℕ → Option ℕ
native_of name = position (λ n. bytes_eq n name) native_names

-- the kinds of a vector's values, by number
abbrev pub kind_names : List (List ℕ)
kind_names = codes "coin" ∷ codes "cap" ∷ codes "counter" ∷ codes "vault" ∷ codes "key" ∷ codes "limit" ∷ []

unfoldable pub kind_of : List ℕ → Option ℕ
kind_of name = position (λ n. bytes_eq n name) kind_names

unfoldable pub command_kind : List ℕ → Option CommandKind
command_kind name =
    if bytes_eq name (codes "split") then Some kind.Split
    else (if bytes_eq name (codes "merge") then Some kind.Merge
    else (if bytes_eq name (codes "transfer") then Some kind.Transfer
    else (if bytes_eq name (codes "vec") then Some kind.MakeVec
    else option_map (λ n. kind.Call n) (native_of name))))

-- the kind of a command word, and what stands between the parentheses
abbrev pub of_command_kind : Option (List ℕ × List ℕ) → Option (CommandKind × List ℕ)
of_command_kind None = None
of_command_kind (Some p) =
    if has_mark 41 p.1 then option_map (λ k. (k, without_mark 41 p.1)) (command_kind p.0) else None

unfoldable pub command_parts : List ℕ → Option (CommandKind × List ℕ)
command_parts word = of_command_kind (cut_at 40 word)

abbrev pub vector_form : List (List ℕ) → Bool
vector_form [] = false
vector_form (kind ∷ values) = is_some (kind_of kind) && list_all is_arg values

abbrev pub vector_value : List (List ℕ) → Option CommandWord
vector_value [] = None
vector_value (kind ∷ values) = with_both (kind_of kind) (each_of arg_of values) (λ k vs. command.MakeVec k vs)

-- whether what stands between `(` and `)` has the form that this kind of command needs. An empty text counts as one
-- empty word, which is not an argument, so `split`, `merge` and `transfer` need one word at least
abbrev pub command_form : CommandKind → List ℕ → Bool
command_form kind.Split inside = list_all is_arg (comma_parts inside)
command_form kind.Merge inside = list_all is_arg (comma_parts inside)
command_form kind.Transfer inside = list_all is_arg (comma_parts inside)
command_form kind.MakeVec inside = vector_form (comma_parts inside)
command_form (kind.Call n) inside = list_all is_arg (call_words inside)

abbrev pub command_value : CommandKind → List ℕ → Option CommandWord
command_value kind.Split inside = option_map (λ xs. command.Split xs) (each_of arg_of (comma_parts inside))
command_value kind.Merge inside = option_map (λ xs. command.Merge xs) (each_of arg_of (comma_parts inside))
command_value kind.Transfer inside = option_map (λ xs. command.Transfer xs) (each_of arg_of (comma_parts inside))
command_value kind.MakeVec inside = vector_value (comma_parts inside)
command_value (kind.Call n) inside = option_map (λ xs. command.Call n xs) (each_of arg_of (call_words inside))

abbrev pub command_parts_form : Option (CommandKind × List ℕ) → Bool
command_parts_form None = false
command_parts_form (Some p) = command_form p.0 p.1

abbrev pub command_parts_value : Option (CommandKind × List ℕ) → Option CommandWord
command_parts_value None = None
command_parts_value (Some p) = command_value p.0 p.1

unfoldable pub is_command : List ℕ → Bool
is_command word = command_parts_form (command_parts word)

unfoldable pub command_of : List ℕ → Option CommandWord
command_of word = command_parts_value (command_parts word)
