-- Words that are numbers joined by commas. Source: this profile.
use Rattle.std.specs.Prelude.{ℕ, ◌==◌, nat_le, List, length, Option, option_and_then}
use Rattle.std.specs.List.{slice_split}
use Rattle.schedule_text.specs.Bytes.{each_of, number_in}
use Rattle.protocol_spec.specs.Chain.Words.{where_true}

abbrev pub up_to_64 : List ℕ → Option (List ℕ)
up_to_64 numbers = where_true (nat_le (length numbers) 64) numbers

-- 1 to 64 numbers, each from `low` to `high`, joined by commas
unfoldable pub numbers_in : ℕ → ℕ → List ℕ → Option (List ℕ)
numbers_in low high word = option_and_then up_to_64 (each_of (number_in low high) (slice_split (λ b. b == 44) word))
