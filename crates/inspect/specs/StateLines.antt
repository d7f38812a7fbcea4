-- The members as they stand: of each a line, and then a line for each of its live objects. Source: this profile.
use Rattle.std.specs.Prelude.{◌≡◌, ◌<◌, ◌≤◌, ℕ, Bool, true, false, List, ◌∷◌, ◌++◌, [], Option, Some, None, codes, decimal, length}
use Rattle.std.specs.List.{concat, flat_map}
use Rattle.chain_types.specs.declared.objects.Object.{Object}
use Rattle.report_text.specs.Text.{text_of}
use Rattle.protocol_spec.specs.Member.Member.{Member, built, live_objects}
use Rattle.world_spec.specs.Names.{shown_order}
use Rattle.world_spec.specs.Report.{object_line}
use Rattle.world_spec.specs.World.{placed}
use Rattle.world_spec.specs.Known.{Known, setting_with, world_with}
use Rattle.inspect.specs.Standing.{States}

-- ---- lines

-- `member M: down`
abbrev pub down_line : ℕ → List ℕ
down_line n = codes "member " ++ decimal n ++ codes ": down" ++ 10 ∷ []

-- `member M: faulty`
abbrev pub faulty_line : ℕ → List ℕ
faulty_line n = codes "member " ++ decimal n ++ codes ": faulty" ++ 10 ∷ []

-- `member M: epoch E entries N checkpoints C objects K`
abbrev pub standing_line : ℕ → ℕ → ℕ → ℕ → ℕ → List ℕ
standing_line n epoch entries checkpoints objects =
    codes "member " ++ decimal n ++ codes ": epoch " ++ decimal epoch ++ codes " entries " ++ decimal entries ++ codes " checkpoints " ++ decimal checkpoints ++ codes " objects " ++ decimal objects ++ 10 ∷ []

-- an object, as a report's `show` writes it
abbrev pub shown_line : Known → Object → List ℕ
shown_line k o = text_of (object_line (setting_with k) (world_with k) o)

-- ---- texts

-- the lines of live objects, in the order in which a report shows them
abbrev pub shown_text : Known → List Object → List ℕ
shown_text k objects = flat_map (shown_line k) (shown_order (setting_with k) (world_with k) objects)

-- the lines of a member that is honest and up: its epoch, the entries that it has taken of that epoch's sequence, the
-- checkpoints that it has built over all epochs, and its live objects
abbrev pub standing_text : Known → ℕ → Member → List ℕ
standing_text k n m = standing_line n m.epoch m.sequence.number (length (built m)) (length (live_objects m)) ++ shown_text k (live_objects m)

-- the line of a member that is not honest and up: down if it is honest, else faulty
abbrev pub absent_text : ℕ → Bool → List ℕ
absent_text n true = down_line n
absent_text n false = faulty_line n

abbrev pub state_text : Known → ℕ → Bool → Option Member → List ℕ
state_text k n honest None = absent_text n honest
state_text k n honest (Some m) = standing_text k n m

-- the lines of all members, numbered from `n`; `crew` says whether each is honest
abbrev pub states_text : Known → States → ℕ → List Bool → List ℕ
states_text k states n crew = concat (placed (λ m honest. state_text k m honest (states m)) n crew)

-- ---- the answers of `states`

-- what `states` says of what is known under names, of whether each member is honest, and of the members as they stand
pub record SaysStates (k : Known) (crew : List Bool) (states : States) (status : ℕ) (text : List ℕ) : Type 0 where
  pub done : status ≡ 0
  pub is : text ≡ states_text k states 0 crew

-- `inspect states L: no such line`
abbrev pub no_line_text : ℕ → List ℕ
no_line_text line = codes "inspect states " ++ decimal line ++ codes ": no such line" ++ 10 ∷ []

-- status 8: the text has fewer lines than the question names
pub record LacksLine (line lines : ℕ) (status : ℕ) (text : List ℕ) : Type 0 where
  pub refused : status ≡ 8
  pub few : lines < line
  pub is : text ≡ no_line_text line

-- status 0: the text has as many lines, and the answer is that of `states`
pub record HasLine (line lines : ℕ) (k : Known) (crew : List Bool) (states : States) (status : ℕ) (text : List ℕ) : Type 0 where
  pub enough : line ≤ lines
  pub says : SaysStates k crew states status text

-- what `states L` says of a run of this many lines
pub data SaysStatesAt (line lines : ℕ) (k : Known) (crew : List Bool) (states : States) (status : ℕ) (text : List ℕ) : Type 0 where
  there : HasLine line lines k crew states status text → SaysStatesAt line lines k crew states status text
  missing : LacksLine line lines status text → SaysStatesAt line lines k crew states status text
