-- The words of the program. Source: this profile.
use Rattle.std.specs.Prelude.{ℕ, List, [], ◌∷◌, Option, Some, None, option_and_then, option_map, bytes_eq, codes, if◌then◌else◌}
use Rattle.wire_bcs.specs.Ascending.{ascends}
use Rattle.schedule_text.specs.Bytes.{number_in}
use Rattle.protocol_spec.specs.Chain.Words.{first_some, where_true}
use Rattle.command_words.specs.ListWords.{numbers_in}
use Rattle.inspect.specs.declared.questions.Question.{Question}
use Rattle.inspect.specs.declared.questions.Question.TheVariants as question

-- the numbers if they ascend, each above the one before it; else none
abbrev pub in_order : List ℕ → Option (List ℕ)
in_order members = where_true (ascends members) members

-- numbers from 0 to 63, joined by commas, each above the one before it
unfoldable pub members_in : List ℕ → Option (List ℕ)
members_in word = option_and_then in_order (numbers_in 0 63 word)

abbrev pub chain_with : Option ℕ → Option (List ℕ) → Option Question
chain_with None members = None
chain_with (Some m) None = None
chain_with (Some m) (Some members) = Some (question.Chain m members)

-- `chain`, the number of a member from 0 to 63, and members
abbrev pub chain_in : List (List ℕ) → Option Question
chain_in (name ∷ member ∷ members ∷ []) = if bytes_eq name (codes "chain") then chain_with (number_in 0 63 member) (members_in members) else None
chain_in words = None

-- the one word `digests`
abbrev pub digests_in : List (List ℕ) → Option Question
digests_in (name ∷ []) = if bytes_eq name (codes "digests") then Some question.Digests else None
digests_in words = None

-- the one word `blame`
abbrev pub blame_in : List (List ℕ) → Option Question
blame_in (name ∷ []) = if bytes_eq name (codes "blame") then Some question.Blame else None
blame_in words = None

-- `states`, or `states` and the number of a line from 1 to 16,777,216
abbrev pub states_in : List (List ℕ) → Option Question
states_in (name ∷ []) = if bytes_eq name (codes "states") then Some question.States else None
states_in (name ∷ line ∷ []) = if bytes_eq name (codes "states") then option_map question.StatesAt (number_in 1 16777216 line) else None
states_in words = None

-- the question that the words ask; none if they ask none
unfoldable pub question_in : List (List ℕ) → Option Question
question_in words = first_some (chain_in words ∷ digests_in words ∷ blame_in words ∷ states_in words ∷ [])
