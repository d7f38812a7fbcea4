-- How much of a schedule a question runs. Source: this profile.
use Rattle.std.specs.Prelude.{◌==◌, ℕ, ◌+◌, ◌-◌, List, [], ◌∷◌, Option, Some, None, take, nat_lt, if◌then◌else◌}
use Rattle.std.specs.List.{join_with_byte}
use Rattle.schedule_text.specs.Schedule.{lines_of}
use Rattle.inspect.specs.declared.questions.Question.{Question}
use Rattle.inspect.specs.declared.questions.Question.TheVariants as question

-- the first lines of a text, without the end of the last of them
unfoldable pub first_lines : ℕ → List ℕ → List ℕ
first_lines n text = join_with_byte 10 (take n (lines_of text))

-- what is run: `states L` runs the first L lines, the others all
abbrev pub part_of : Question → List ℕ → List ℕ
part_of (question.Chain m members) text = text
part_of question.Digests text = text
part_of question.Blame text = text
part_of question.States text = text
part_of (question.StatesAt line) text = first_lines line text

-- ---- how the code finds them

-- the ends of lines that are still to be passed after a byte; none if it ends the last of these lines
unfoldable pub past : ℕ → ℕ → Option ℕ
past more b = if b == 10 then (if nat_lt 0 more then Some (more - 1) else None) else Some more

abbrev pub go_on : Option ℕ → ℕ → (ℕ → ℕ) → ℕ
go_on None place next = place
go_on (Some left) place next = next left

-- where the line ends that comes after this many line ends, in bytes of which the first stands at this place
unfoldable pub line_end : ℕ → ℕ → List ℕ → ℕ
line_end place more [] = place
line_end place more (b ∷ bs) = go_on (past more b) place (λ left. line_end (place + 1) left bs)
