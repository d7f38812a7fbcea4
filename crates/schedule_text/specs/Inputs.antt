-- The input words of a transaction: a letter for the kind, `:`, and a value. Source: this profile.
use Rattle.std.specs.Prelude.{◌==◌, ℕ, ◌%◌, Bool, true, false, ◌&&◌, ◌||◌, nat_le, List, [], ◌∷◌, length, Option, Some, None, option_map, if◌then◌else◌}
use Rattle.std.specs.List.{list_all}
use Rattle.std.specs.Result.{result_ok}
use Rattle.hex.specs.Hex.{decode_of}
use Rattle.schedule_text.specs.declared.inputs.InputKind.{InputKind}
use Rattle.schedule_text.specs.declared.inputs.InputKind.TheVariants as kind
use Rattle.schedule_text.specs.declared.words.RefWord.{RefWord}
use Rattle.schedule_text.specs.declared.words.InputWord.{InputWord}
use Rattle.schedule_text.specs.declared.words.InputWord.TheVariants as input
use Rattle.schedule_text.specs.Bytes.{is_name, is_digit, is_digits, number_of, cut_at}
use Rattle.schedule_text.specs.Refs.{is_ref, ref_of, is_shared}

-- a hexadecimal digit, in lower case
abbrev pub is_hex_byte : ℕ → Bool
is_hex_byte b = is_digit b || (nat_le 97 b && nat_le b 102)

-- an even number of hexadecimal digits, in lower case
unfoldable pub is_hex : List ℕ → Bool
is_hex word = length word % 2 == 0 && list_all is_hex_byte word

-- the bytes of such digits, two digits a byte
unfoldable pub hex_of : List ℕ → Option (List ℕ)
hex_of word = result_ok (decode_of word)

-- the kind of an input, by its letter
unfoldable pub input_kind : List ℕ → Option InputKind
input_kind [] = None
input_kind (b ∷ c ∷ bs) = None
input_kind (b ∷ []) =
    if b == 110 then Some kind.Number
    else (if b == 97 then Some kind.Address
    else (if b == 120 then Some kind.Bytes
    else (if b == 111 then Some kind.Owned
    else (if b == 105 then Some kind.Immutable
    else (if b == 115 then Some kind.Mutable
    else (if b == 114 then Some kind.ReadOnly
    else None))))))

abbrev pub of_kind : Option (List ℕ × List ℕ) → Option (InputKind × List ℕ)
of_kind None = None
of_kind (Some p) = option_map (λ k. (k, p.1)) (input_kind p.0)

-- the kind of an input word, and what stands after the `:`
unfoldable pub input_parts : List ℕ → Option (InputKind × List ℕ)
input_parts word = of_kind (cut_at 58 word)

abbrev pub input_form : InputKind → List ℕ → Bool
input_form kind.Number rest = is_digits rest
input_form kind.Address rest = is_name rest
input_form kind.Bytes rest = is_hex rest
input_form kind.Owned rest = is_ref rest
input_form kind.Immutable rest = is_ref rest
input_form kind.Mutable rest = is_shared rest
input_form kind.ReadOnly rest = is_shared rest

abbrev pub shared_input : Bool → RefWord → InputWord
shared_input mutable r = input.Shared r.object r.version mutable

abbrev pub input_value : InputKind → List ℕ → Option InputWord
input_value kind.Number rest = option_map (λ n. input.Number n) (number_of rest)
input_value kind.Address rest = Some (input.Address rest)
input_value kind.Bytes rest = option_map (λ bytes. input.Bytes bytes) (hex_of rest)
input_value kind.Owned rest = option_map (λ r. input.Owned r) (ref_of rest)
input_value kind.Immutable rest = option_map (λ r. input.Immutable r) (ref_of rest)
input_value kind.Mutable rest = option_map (shared_input true) (ref_of rest)
input_value kind.ReadOnly rest = option_map (shared_input false) (ref_of rest)

abbrev pub form_of_parts : Option (InputKind × List ℕ) → Bool
form_of_parts None = false
form_of_parts (Some p) = input_form p.0 p.1

abbrev pub value_of_parts : Option (InputKind × List ℕ) → Option InputWord
value_of_parts None = None
value_of_parts (Some p) = input_value p.0 p.1

unfoldable pub is_input : List ℕ → Bool
is_input word = form_of_parts (input_parts word)

unfoldable pub input_of : List ℕ → Option InputWord
input_of word = value_of_parts (input_parts word)
