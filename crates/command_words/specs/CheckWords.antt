-- The words of `check`: the stakes of a committee, and the digest of a transaction. Source: this profile.
use Rattle.std.specs.Prelude.{ℕ, ◌==◌, ◌&&◌, List, [], ◌∷◌, length, Option, Some, None, Result, Ok, Err, bytes_eq, codes, if◌then◌else◌}
use Rattle.std.specs.List.{list_all}
use Rattle.digest_core.specs.declared.Digest.{Digest}
use Rattle.hex.specs.Hex.{decode_of}
use Rattle.hex.specs.declared.error.FromHexError.{FromHexError}
use Rattle.schedule_text.specs.Inputs.{is_hex_byte}
use Rattle.command_words.specs.ListWords.{numbers_in}
use Rattle.command_words.specs.declared.words.Command.{Command}
use Rattle.command_words.specs.declared.words.Command.TheVariants as command

-- 1 to 64 numbers from 1 to 2^32 - 1, joined by commas
abbrev pub stakes_in : List ℕ → Option (List ℕ)
stakes_in word = numbers_in 1 4294967295 word

abbrev pub digest_of_bytes : Result (List ℕ) FromHexError → Option Digest
digest_of_bytes (Ok bytes) = Some (record { 0 = bytes })
digest_of_bytes (Err e) = None

-- 64 hexadecimal digits in lower case
unfoldable pub digest_in : List ℕ → Option Digest
digest_in word = if (length word == 64) && list_all is_hex_byte word then digest_of_bytes (decode_of word) else None

abbrev pub check_with : List ℕ → Option Digest → Option Command
check_with stakes None = None
check_with stakes (Some tx) = Some (command.Check stakes tx)

abbrev pub check_of : Option (List ℕ) → Option Digest → Option Command
check_of None tx = None
check_of (Some stakes) tx = check_with stakes tx

-- the command of the two words after `check`: stakes and a digest
unfoldable pub check_words : List ℕ → List ℕ → Option Command
check_words stakes tx = check_of (stakes_in stakes) (digest_in tx)

-- the `check` command that the words are, none if they are not one: `check`, stakes and a digest
abbrev pub check_in : List (List ℕ) → Option Command
check_in (name ∷ stakes ∷ tx ∷ []) = if bytes_eq name (codes "check") then check_words stakes tx else None
check_in words = None
