-- Names and numbers of a schedule, byte by byte. Source: this profile.
use Rattle.std.specs.Prelude.{◌==◌, ℕ, ◌+◌, ◌-◌, ◌*◌, ◌^◌, Bool, false, ◌&&◌, ◌||◌, not, List, [], ◌∷◌, length, Option, Some, None, nat_le, nat_lt, slice_index, take, drop, option_map, option_and_then, position, if◌then◌else◌}
use Rattle.std.specs.List.{list_all}

abbrev pub is_digit : ℕ → Bool
is_digit b = nat_le 48 b && nat_le b 57

abbrev pub is_lower : ℕ → Bool
is_lower b = nat_le 97 b && nat_le b 122

-- a lower-case letter, a digit or `_`
abbrev pub is_name_byte : ℕ → Bool
is_name_byte b = is_lower b || is_digit b || b == 95

-- from a space to `~`
abbrev pub is_printable : ℕ → Bool
is_printable b = nat_le 32 b && nat_le b 126

-- a lower-case letter, and then at most 15 bytes of a name
unfoldable pub is_name : List ℕ → Bool
is_name [] = false
is_name (b ∷ bs) = is_lower b && nat_le (length bs) 15 && list_all is_name_byte bs

-- one digit or more
unfoldable pub is_digits : List ℕ → Bool
is_digits [] = false
is_digits (b ∷ bs) = is_digit b && list_all is_digit bs

-- the value of decimal digits that follow digits of value n
unfoldable pub value_from : ℕ → List ℕ → ℕ
value_from n [] = n
value_from n (b ∷ bs) = value_from (n * 10 + (b - 48)) bs

-- a 0 stands before other digits
abbrev pub has_leading_zero : List ℕ → Bool
has_leading_zero (b ∷ c ∷ bs) = b == 48
has_leading_zero word = false

-- the value of decimal digits without a leading zero, of at most 64 bits
unfoldable pub number_of : List ℕ → Option ℕ
number_of word =
    if is_digits word && not (has_leading_zero word) && nat_lt (value_from 0 word) (2 ^ 64)
    then Some (value_from 0 word)
    else None

-- a number from low to high
unfoldable pub number_in : ℕ → ℕ → List ℕ → Option ℕ
number_in low high word =
    option_and_then (λ n. if nat_le low n && nat_le n high then Some n else None) (number_of word)

-- the word cut at the first byte of this value: what stands before it, and what stands after it; none if the byte is
-- not there
unfoldable pub cut_at : ℕ → List ℕ → Option (List ℕ × List ℕ)
cut_at byte word =
    option_map (λ at. (take at word, drop (at + 1) word)) (position (λ b. b == byte) word)

-- the word ends with this byte
unfoldable pub has_mark : ℕ → List ℕ → Bool
has_mark byte word = nat_lt 0 (length word) && slice_index word (length word - 1) == byte

-- the word without this byte at its end
unfoldable pub without_mark : ℕ → List ℕ → List ℕ
without_mark byte word = if has_mark byte word then take (length word - 1) word else word

-- `f` of two values, if both are there
abbrev pub with_both : {A B C : Type 0} → Option A → Option B → (A → B → C) → Option C
with_both None b f = None
with_both (Some x) None f = None
with_both (Some x) (Some y) f = Some (f x y)

-- the values of all items, if each has one; else none
unfoldable pub each_of : {X A : Type 0} → (X → Option A) → List X → Option (List A)
each_of f [] = Some []
each_of f (x ∷ xs) = with_both (f x) (each_of f xs) (λ y ys. y ∷ ys)
