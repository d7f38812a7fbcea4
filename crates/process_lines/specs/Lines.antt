-- Lines, as they are cut from what a source gives. Source: this profile.
use Rattle.std.specs.Prelude.{◌≡◌, ℕ, ◌+◌, ◌<◌, ◌≤◌, ◌==◌, nat_lt, Bool, true, false, List, [], ◌∷◌, ◌++◌, drop, length, Option, MatchBool, if◌then◌else◌}
use Rattle.std.specs.List.{list_any}
use Rattle.std.specs.Io.KnownBytes.{Consumes, IsAtEnd}
use Rattle.process_lines.specs.declared.line_reader.Got.{Got}
use Rattle.process_lines.specs.declared.line_reader.Got.TheVariants as got
use Rattle.process_lines.specs.declared.line_reader.Part.{Part}

-- the most bytes of a line, without its end
abbrev pub longest_line : ℕ
longest_line = 4194304

-- no byte ends a line
abbrev pub HasNoEnd : List ℕ → Type 0
HasNoEnd bytes = list_any (λ b. b == 10) bytes ≡ false

-- a whole line was taken: its bytes and its end are the first of what was pending and of what was read after it
pub record ReadsLine (pending pending' : List ℕ) (left left' : Option (List ℕ)) (line : List ℕ) : Type 0 where
  pub bytes : List ℕ
  pub read : Consumes left left' bytes
  pub parts : pending ++ bytes ≡ line ++ 10 ∷ pending'
  pub whole : HasNoEnd line

-- the source was read to its end, and no line ends in what was read
pub record ReadsEnd (pending : List ℕ) (left left' : Option (List ℕ)) : Type 0 where
  pub bytes : List ℕ
  pub read : Consumes left left' bytes
  pub whole : HasNoEnd (pending ++ bytes)
  pub ended : IsAtEnd left'

-- what a reader answers: the line, only that it was too long (it was read to its end), or that the input ended
abbrev pub Reads : List ℕ → List ℕ → Option (List ℕ) → Option (List ℕ) → Got → Type 0
Reads pending pending' left left' (got.Line line) = ReadsLine pending pending' left left' line × (length line ≤ longest_line)
Reads pending pending' left left' got.TooLong = (line : List ℕ) × ReadsLine pending pending' left left' line × (longest_line < length line)
Reads pending pending' left left' got.End = ReadsEnd pending left left'

-- ---- while a line is read

-- the bytes begin with this line, which has `used` bytes with its end
pub record IsCutAt (bytes line : List ℕ) (used : ℕ) : Type 0 where
  pub parts : bytes ≡ line ++ 10 ∷ drop used bytes
  pub whole : HasNoEnd line
  pub within : used ≤ length bytes

-- what is kept of the bytes of a line so far: all of them, or only that they are too many
abbrev pub IsPart : List ℕ → Part → Type 0
IsPart line p = MatchBool p.too_long (longest_line < length line) ((p.text ≡ line) × (length line ≤ longest_line))

abbrev pub added : Part → List ℕ → Part
added p bytes =
    if p.too_long then p
    else (if nat_lt longest_line (length p.text + length bytes) then record p { too_long = true } else record p { text = p.text ++ bytes })

abbrev pub got_in : Part → Got
got_in p = if p.too_long then got.TooLong else got.Line p.text

-- the state while a line is read: the bytes of `line` so far were taken from what was pending and what was read after
-- it
pub record IsAlong (pending pending' : List ℕ) (left left' : Option (List ℕ)) (p : Part) : Type 0 where
  pub line : List ℕ
  pub bytes : List ℕ
  pub read : Consumes left left' bytes
  pub parts : pending ++ bytes ≡ line ++ pending'
  pub whole : HasNoEnd line
  pub kept : IsPart line p

-- what one step takes of what is pending: the line's bytes up to its end (true), or all of it if no line ends there
-- (false)
abbrev pub Takes : List ℕ → List ℕ → Part → Part → Bool → Type 0
Takes pending pending' p p' true = (piece : List ℕ) × (pending ≡ piece ++ 10 ∷ pending') × HasNoEnd piece × (p' ≡ added p piece)
Takes pending pending' p p' false = HasNoEnd pending × (pending' ≡ []) × (p' ≡ added p pending)

-- the source gave more bytes (true), or is at its end (false)
abbrev pub Fills : List ℕ → Option (List ℕ) → Option (List ℕ) → Bool → Type 0
Fills pending left left' true = Consumes left left' pending
Fills pending left left' false = (pending ≡ []) × IsAtEnd left' × Consumes left left' []
