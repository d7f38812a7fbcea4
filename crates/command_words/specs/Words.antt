-- The words of the program's commands. Source: this profile.
use Rattle.std.specs.Prelude.{◌≤◌, ◌-◌, ◌&&◌, ℕ, nat_le, Bool, false, List, [], ◌∷◌, length, Option, Some, None, bytes_eq, codes, option_map, if◌then◌else◌}
use Rattle.std.specs.List.{slice_index_or}
use Rattle.schedule_text.specs.Bytes.{number_in}
use Rattle.protocol_spec.specs.Chain.Words.{first_some}
use Rattle.command_words.specs.declared.words.Command.{Command}
use Rattle.command_words.specs.declared.words.Command.TheVariants as command
use Rattle.command_words.specs.CheckWords.{check_in}

-- `run`
abbrev pub run_in : List (List ℕ) → Option Command
run_in (name ∷ []) = if bytes_eq name (codes "run") then Some command.Run else None
run_in words = None

-- `make` and a number from 1 to 10,000, in decimal digits with no leading zero
abbrev pub make_in : List (List ℕ) → Option Command
make_in (name ∷ number ∷ []) = if bytes_eq name (codes "make") then option_map command.Make (number_in 1 10000 number) else None
make_in words = None

-- `follow` and the number of a member, from 0 to 63
abbrev pub follow_in : List (List ℕ) → Option Command
follow_in (name ∷ number ∷ []) = if bytes_eq name (codes "follow") then option_map command.Follow (number_in 0 63 number) else None
follow_in words = None

-- `desk` and the number of callers, from 1 to 16
abbrev pub desk_in : List (List ℕ) → Option Command
desk_in (name ∷ number ∷ []) = if bytes_eq name (codes "desk") then option_map command.Desk (number_in 1 16 number) else None
desk_in words = None

-- `replay` and the number of a member, from 0 to 63
abbrev pub replay_in : List (List ℕ) → Option Command
replay_in (name ∷ number ∷ []) = if bytes_eq name (codes "replay") then option_map command.Replay (number_in 0 63 number) else None
replay_in words = None

-- the command that the words are
unfoldable pub command_in : List (List ℕ) → Option Command
command_in words = first_some (run_in words ∷ make_in words ∷ check_in words ∷ follow_in words ∷ desk_in words ∷ replay_in words ∷ [])

-- the number in a command is in the range of its word
abbrev pub IsInRange : Command → Type 0
IsInRange command.Run = Unit {0}
IsInRange (command.Make number) = (1 ≤ number) × (number ≤ 10000)
IsInRange (command.Check stakes tx) = Unit {0}
IsInRange (command.Follow member) = member ≤ 63
IsInRange (command.Desk callers) = (1 ≤ callers) × (callers ≤ 16)
IsInRange (command.Replay member) = member ≤ 63

-- ---- a journal file

-- the place of the word that names a journal file: the last one, if there are three words or more and the one before
-- it is `in`
abbrev pub place_in : List (List ℕ) → Option ℕ
place_in words =
    if nat_le 3 (length words) && bytes_eq (slice_index_or words (length words - 2) []) (codes "in")
    then Some (length words - 1)
    else None

-- the first word is `replay`
abbrev pub names_replay : List (List ℕ) → Bool
names_replay [] = false
names_replay (word ∷ words) = bytes_eq word (codes "replay")
