-- The schedule that a text is, or the line and the cause of its refusal. Source: this profile.
use Rattle.std.specs.Prelude.{◌≡◌, ◌==◌, ℕ, ◌+◌, Bool, true, List, [], ◌∷◌, length, Result, Ok, Err, nat_eq, nat_lt, codes, if◌then◌else◌}
use Rattle.std.specs.List.{slice_split, list_any, list_all, starts_with}
use Rattle.schedule_text.specs.declared.cause.Cause.{Cause}
use Rattle.schedule_text.specs.declared.cause.Cause.TheVariants as cause
use Rattle.schedule_text.specs.declared.cause.LineFault.{LineFault}
use Rattle.schedule_text.specs.declared.cause.LineFault.TheVariants as fault
use Rattle.schedule_text.specs.declared.words.Schedule.{Schedule}
use Rattle.schedule_text.specs.declared.words.ScheduleRefusal.{ScheduleRefusal}
use Rattle.schedule_text.specs.declared.words.ScheduleRefusal.TheVariants as refusal
use Rattle.schedule_text.specs.declared.statement.Statement.{Statement}
use Rattle.schedule_text.specs.Agrees.{no_lines}
use Rattle.schedule_text.specs.Bytes.{is_printable}
use Rattle.schedule_text.specs.Cause.{number_of_cause}
use Rattle.schedule_text.specs.Known.{add_line}
use Rattle.schedule_text.specs.Lines.{words_of, statement_of}

-- a refusal: the number of the bad line, from 1, or 0 for the whole text; and the number of the cause
pub record Refused : Type 0 where
  pub line : ℕ
  pub cause : ℕ

-- the most bytes of a schedule
abbrev pub longest_text : ℕ
longest_text = 16777216

abbrev pub lines_of : List ℕ → List (List ℕ)
lines_of text = slice_split (λ b. b == 10) text

-- an empty line, or one that begins with `#`
abbrev pub is_skipped : List ℕ → Bool
is_skipped [] = true
is_skipped (b ∷ bs) = b == 35

-- the line begins with `member` and a space
abbrev pub begins_member : List ℕ → Bool
begins_member line = starts_with nat_eq line (codes "member ")

abbrev pub add_statement : Schedule → Result Statement Cause → Result Schedule Cause
add_statement s (Ok x) = add_line s x
add_statement s (Err c) = Err c

-- the schedule after one more line
unfoldable pub read_line : Schedule → List ℕ → Result Schedule Cause
read_line s line =
    if is_skipped line then Ok s
    else (if list_all is_printable line then add_statement s (statement_of (words_of line)) else Err cause.BadByte)

-- goes on with a value, or refuses the line of this number with its cause
abbrev pub or_refuse : {A B : Type 0} → Result A Cause → ℕ → (A → Result B Refused) → Result B Refused
or_refuse (Ok a) line next = next a
or_refuse (Err c) line next = Err (record { line = line; cause = number_of_cause c })

-- the schedule after lines, of which the first has this number
unfoldable pub read_lines : ℕ → Schedule → List (List ℕ) → Result Schedule Refused
read_lines number s [] = Ok s
read_lines number s (line ∷ lines) = or_refuse (read_line s line) number (λ t. read_lines (number + 1) t lines)

-- the schedule that the bytes are; causes 1 and 2 look at the whole text
unfoldable pub schedule_of : List ℕ → Result Schedule Refused
schedule_of text =
    if nat_lt longest_text (length text) then Err (record { line = 0; cause = number_of_cause cause.TooLarge })
    else (if list_any begins_member (lines_of text) then read_lines 1 no_lines (lines_of text)
    else Err (record { line = 0; cause = number_of_cause cause.NoMembers }))

-- the reader's refusal is the definition's; a refusal because memory ran out says nothing about the definition
abbrev pub RefusesWith : Result Schedule Refused → ScheduleRefusal → Type 0
RefusesWith said (refusal.Refused line cause) = said ≡ Err (record { line = line; cause = cause })
RefusesWith said refusal.OutOfMemory = Unit {0}

-- the reader's refusal for a fault in the line of this number
abbrev pub refusal_of : ℕ → LineFault → ScheduleRefusal
refusal_of line (fault.Bad c) = refusal.Refused line (number_of_cause c)
refusal_of line fault.OutOfMemory = refusal.OutOfMemory
