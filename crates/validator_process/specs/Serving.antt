-- Lines that are answered one after the other, and what is left if a fault cuts them. Source: this profile.
use Rattle.std.specs.Prelude.{◌≡◌, ◌⊎◌, ℕ, nat_le, Bool, true, false, is_some, List, [], ◌∷◌, ◌++◌, fold, length, Option, Some, None, if◌then◌else◌}
use Rattle.std.specs.List.{flat_map}
use Rattle.std.specs.Io.KnownBytes.{Appends, Consumes, Keeps}
use Rattle.outside.specs.Lists.{Journals, KeepsJournals, with_record}
use Rattle.outside.specs.Streams.{AppendsFront}
use Rattle.journal_core.specs.declared.records.Record.{Record}
use Rattle.journal_core.specs.Records as journals
use Rattle.protocol_spec.specs.Chain.Words.{Each}
use Rattle.world_spec.specs.Posts.{AddsLeft, MayAddLeft}
use Rattle.world_spec.specs.Seats.{Seated}
use Rattle.world_core.specs.Replies.{Accepting}
use Rattle.process_lines.specs.declared.request.Request.{Request}
use Rattle.process_lines.specs.Lines.{HasNoEnd, ReadsEnd, ReadsLine, longest_line}
use Rattle.process_lines.specs.Requests.{request_of}
use Rattle.process_lines.specs.Texts.{bad_request_text}
use Rattle.validator_process.specs.declared.stop.Stop.{Stop}
use Rattle.validator_process.specs.declared.stop.Stop.TheVariants as stop
use Rattle.validator_process.specs.Moves.{due_for, moved}
use Rattle.validator_process.specs.Says.{Says}

-- a line that was read, without its end, and what was written for it
pub record Exchange : Type 0 where
  pub line : List ℕ
  pub text : List ℕ

abbrev pub ended : List ℕ → List ℕ
ended line = line ++ 10 ∷ []

-- ---- one line

-- the request that a line is, none if it is not a request or too long
abbrev pub request_in : List ℕ → Option Request
request_in line = if nat_le (length line) longest_line then request_of line else None

abbrev pub seat_behind_request : Accepting → Seated → Option Request → Seated
seat_behind_request accepts seat None = seat
seat_behind_request accepts seat (Some q) = moved accepts seat q

abbrev pub due_for_request : Accepting → Seated → Option Request → Option Record
due_for_request accepts seat None = None
due_for_request accepts seat (Some q) = due_for accepts seat q

abbrev pub IsAnswer : Accepting → Seated → Option Request → List ℕ → Type 0
IsAnswer accepts seat None text = text ≡ ended bad_request_text
IsAnswer accepts seat (Some q) text = (body : List ℕ) × (text ≡ ended body) × Says accepts seat q body

-- the member after a line, and the record that it leaves
abbrev pub seat_behind_line : Accepting → Seated → List ℕ → Seated
seat_behind_line accepts seat line = seat_behind_request accepts seat (request_in line)

abbrev pub due_for_line : Accepting → Seated → List ℕ → Option Record
due_for_line accepts seat line = due_for_request accepts seat (request_in line)

abbrev pub Answers : Accepting → Seated → Exchange → Type 0
Answers accepts seat x = IsAnswer accepts seat (request_in x.line) x.text

-- ---- lines in order

-- each line has the answer of the member after the lines before it
abbrev pub AreAnswered : Accepting → Seated → List Exchange → Type 0
AreAnswered accepts seat [] = Unit {0}
AreAnswered accepts seat (x ∷ xs) = Answers accepts seat x × AreAnswered accepts (seat_behind_line accepts seat x.line) xs

abbrev pub seat_behind_lines : Accepting → Seated → List Exchange → Seated
seat_behind_lines accepts seat [] = seat
seat_behind_lines accepts seat (x ∷ xs) = seat_behind_lines accepts (seat_behind_line accepts seat x.line) xs

abbrev pub spelled : Option Record → List (List ℕ)
spelled None = []
spelled (Some x) = journals.journal_record.spell x ∷ []

-- the records that these lines leave, in order
abbrev pub records_left : Accepting → Seated → List Exchange → List (List ℕ)
records_left accepts seat [] = []
records_left accepts seat (x ∷ xs) = spelled (due_for_line accepts seat x.line) ++ records_left accepts (seat_behind_line accepts seat x.line) xs

-- the lists with these records of a member at the end of its own
abbrev pub with_records : Journals → ℕ → List (List ℕ) → Journals
with_records lists m records = fold (λ (l : Journals) bytes. with_record l m bytes) lists records

abbrev pub AddsRecords : Option Journals → Option Journals → ℕ → List (List ℕ) → Type 0
AddsRecords None now m records = Unit {0}
AddsRecords (Some lists) now m records = now ≡ Some (with_records lists m records)

-- these whole lines were taken: with their ends they are the first of what was pending and of what was read after it
pub record ReadsLines (pending pending' : List ℕ) (left left' : Option (List ℕ)) (xs : List Exchange) : Type 0 where
  pub bytes : List ℕ
  pub read : Consumes left left' bytes
  pub parts : pending ++ bytes ≡ flat_map (λ (x : Exchange). ended x.line) xs ++ pending'
  pub whole : Each (λ (x : Exchange). HasNoEnd x.line) xs

-- what a process reads, writes and keeps: what is pending, what the source has left, what the sink holds, the observable lists,
-- and the member
pub record Around : Type 0 where
  pub pending : List ℕ
  pub left : Option (List ℕ)
  pub held : Option (List ℕ)
  pub kept : Option Journals
  pub seat : Seated

abbrev pub around : List ℕ → Option (List ℕ) → Option (List ℕ) → Option Journals → Seated → Around
around pending left held kept seat = record { pending = pending; left = left; held = held; kept = kept; seat = seat }

-- these lines were read, answered and written, and their records are kept
pub record Serves (accepts : Accepting) (xs : List Exchange) (old new : Around) : Type 0 where
  pub reads : ReadsLines old.pending new.pending old.left new.left xs
  pub answers : AreAnswered accepts old.seat xs
  pub writes : Appends old.held new.held (flat_map (λ (x : Exchange). x.text) xs)
  pub keeps : AddsRecords old.kept new.kept old.seat.member (records_left accepts old.seat xs)
  pub seat : new.seat ≡ seat_behind_lines accepts old.seat xs

-- ---- one line more

-- a line was answered (`q` is its request, none if it is not one): the answer is written, and its record is kept
pub record IsServed (accepts : Accepting) (q : Option Request) (held held' : Option (List ℕ)) (kept kept' : Option Journals) (seat seat' : Seated) : Type 0 where
  pub text : List ℕ
  pub answers : IsAnswer accepts seat q text
  pub writes : Appends held held' text
  pub keeps : AddsLeft kept kept' seat.member (due_for_request accepts seat q)
  pub becomes : seat' ≡ seat_behind_request accepts seat q

-- a line was not answered: nothing is written, and its record may be kept
pub record IsRefused (accepts : Accepting) (q : Option Request) (held held' : Option (List ℕ)) (kept kept' : Option Journals) (seat : Seated) : Type 0 where
  pub writes : Keeps held held'
  pub keeps : MayAddLeft kept kept' seat.member (due_for_request accepts seat q)

-- a line was answered in part: a prefix of the answer is written, and its record is kept
pub record IsHalfSaid (accepts : Accepting) (q : Option Request) (held held' : Option (List ℕ)) (kept kept' : Option Journals) (seat : Seated) : Type 0 where
  pub text : List ℕ
  pub answers : IsAnswer accepts seat q text
  pub writes : AppendsFront held held' text
  pub keeps : AddsLeft kept kept' seat.member (due_for_request accepts seat q)

-- how far a line came when this stop ended the process; a fault of the journal comes only if a record is due
abbrev pub IsStoppedBy : Accepting → Stop → Option Request → Option (List ℕ) → Option (List ℕ) → Option Journals → Option Journals → Seated → Type 0
IsStoppedBy accepts stop.ReadFault q held held' kept kept' seat = ⊥
IsStoppedBy accepts stop.WriteFault q held held' kept kept' seat = IsHalfSaid accepts q held held' kept kept' seat
IsStoppedBy accepts stop.KeepFault q held held' kept kept' seat = IsRefused accepts q held held' kept kept' seat × (is_some (due_for_request accepts seat q) ≡ true)
IsStoppedBy accepts stop.OutOfMemory q held held' kept kept' seat = IsRefused accepts q held held' kept kept' seat ⊎ IsHalfSaid accepts q held held' kept kept' seat

-- a line is read, answered and written, and its record is kept
pub record ServesOne (accepts : Accepting) (x : Exchange) (old new : Around) : Type 0 where
  pub reads : ReadsLine old.pending new.pending old.left new.left x.line
  pub answers : Answers accepts old.seat x
  pub writes : Appends old.held new.held x.text
  pub keeps : AddsLeft old.kept new.kept old.seat.member (due_for_line accepts old.seat x.line)
  pub seat : new.seat ≡ seat_behind_line accepts old.seat x.line

-- the source is at its end: no line was read, and nothing is written or kept
pub record IsOver (old new : Around) : Type 0 where
  pub ends : ReadsEnd old.pending old.left new.left
  pub writes : new.held ≡ old.held
  pub keeps : new.kept ≡ old.kept

abbrev pub Next : Accepting → Around → Around → Bool → Type 0
Next accepts old new true = (x : Exchange) × ServesOne accepts x old new
Next accepts old new false = IsOver old new

-- ---- the line at which a process is cut

-- the process was cut off before it read a line
pub record IsUnread (old new : Around) : Type 0 where
  pub writes : Keeps old.held new.held
  pub keeps : KeepsJournals old.kept new.kept

-- the line was read and not answered: nothing was written, and its record may be kept
pub record IsUnanswered (accepts : Accepting) (old new : Around) : Type 0 where
  pub line : List ℕ
  pub reads : ReadsLine old.pending new.pending old.left new.left line
  pub writes : Keeps old.held new.held
  pub keeps : MayAddLeft old.kept new.kept old.seat.member (due_for_line accepts old.seat line)

-- the line was read, its record was due, and the journal met a fault: nothing was written, and the record may be kept
pub record IsUnkept (accepts : Accepting) (old new : Around) : Type 0 where
  pub line : List ℕ
  pub reads : ReadsLine old.pending new.pending old.left new.left line
  pub owed : is_some (due_for_line accepts old.seat line) ≡ true
  pub writes : Keeps old.held new.held
  pub keeps : MayAddLeft old.kept new.kept old.seat.member (due_for_line accepts old.seat line)

-- the line was answered, and a prefix of the answer was written: its record is kept
pub record IsUnwritten (accepts : Accepting) (old new : Around) : Type 0 where
  pub exchange : Exchange
  pub reads : ReadsLine old.pending new.pending old.left new.left exchange.line
  pub answers : Answers accepts old.seat exchange
  pub writes : AppendsFront old.held new.held exchange.text
  pub keeps : AddsLeft old.kept new.kept old.seat.member (due_for_line accepts old.seat exchange.line)

abbrev pub IsCutAt : Accepting → Around → Around → Type 0
IsCutAt accepts old new = IsUnread old new ⊎ IsUnanswered accepts old new ⊎ IsUnwritten accepts old new

-- how far the last line came when this stop cut the process off
abbrev pub IsCutBy : Accepting → Stop → Around → Around → Type 0
IsCutBy accepts stop.ReadFault old new = IsUnread old new
IsCutBy accepts stop.WriteFault old new = IsUnwritten accepts old new
IsCutBy accepts stop.KeepFault old new = IsUnkept accepts old new
IsCutBy accepts stop.OutOfMemory old new = IsCutAt accepts old new

-- ---- a whole life

-- the source was read to its end, and all its lines were served
pub record ServesAll (accepts : Accepting) (old new : Around) : Type 0 where
  pub exchanges : List Exchange
  pub last : Around
  pub serves : Serves accepts exchanges old last
  pub ends : ReadsEnd last.pending last.left new.left
  pub writes : new.held ≡ last.held
  pub keeps : new.kept ≡ last.kept

-- a stop cut the process off: some lines were served, and one more came as far as the stop allows
pub record ServesSome (accepts : Accepting) (why : Stop) (old new : Around) : Type 0 where
  pub exchanges : List Exchange
  pub last : Around
  pub serves : Serves accepts exchanges old last
  pub cut : IsCutBy accepts why last new
