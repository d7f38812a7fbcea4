-- One line more is read, answered and written, or cut.
use Rattle.std.proofs.Common.{◌≡◌, ◌∙◌, inl, inr, ℕ, ◌<◌, ◌≤◌, leb, Bool, true, false, cond, List, length, Option, Some, None, Result, Err, refl, subst, ap, arith}
use Rattle.std.proofs.lemmas.Bool.Decides.{nat_tests}
use Rattle.std.specs.Prelude.{is_some}
use Rattle.std.specs.Io.KnownBytes.{Appends, Keeps}
use Rattle.outside.specs.Lists.{Journals, KeepsJournals}
use Rattle.outside.specs.declared.faults.OutFault.{OutFault}
use Rattle.outside.specs.declared.faults.OutFault.TheVariants as out
use Rattle.outside.specs.Streams.{AppendsFront}
use Rattle.world_spec.specs.Seats.{Seated}
use Rattle.validator_core.proofs.Settling.{keeps_same}
use Rattle.world_core.specs.Replies.{Accepting, spelled_due}
use Rattle.process_lines.specs.declared.line_reader.Got.TheVariants as got
use Rattle.process_lines.specs.declared.request.Request.{Request}
use Rattle.process_lines.specs.Lines.{Reads, ReadsLine, longest_line}
use Rattle.process_lines.specs.Requests.{request_of}
use Rattle.process_lines.specs.Texts.{bad_request_text}
use Rattle.validator_process.specs.declared.stop.Stop.{Stop}
use Rattle.validator_process.specs.declared.stop.Stop.TheVariants as stop
use Rattle.validator_process.specs.Growing.{AddsDue, MayAddDue}
use Rattle.validator_process.specs.Serving.{IsAnswer, IsCutAt, IsCutBy, IsHalfSaid, IsRefused, IsServed, IsStoppedBy, IsUnwritten, Next, around, due_for_request, ended, request_in, seat_behind_request}
use Rattle.validator_process.specs.Starting.{IsInside}
use Rattle.validator_process.specs.Stops.{unread}
use Rattle.validator_process.proofs.Kept.{adds_left, is_owed, may_add_left}

held_same : (held : Option (List ℕ)) → Keeps held held
held_same None = tt
held_same (Some xs) = refl

-- ---- a request, or none

-- a stop of the sink, while this answer was written
module _ (accepts : Accepting) (q : Option Request) (held held' : Option (List ℕ)) (kept kept' : Option Journals) (seat : Seated) where
  half-said : (why : Stop) → (why ≡ stop.ReadFault → ⊥) → (why ≡ stop.KeepFault → ⊥) → IsHalfSaid accepts q held held' kept kept' seat → IsStoppedBy accepts why q held held' kept kept' seat
  half-said stop.ReadFault unread unkept half = absurd (unread refl)
  half-said stop.WriteFault unread unkept half = half
  half-said stop.KeepFault unread unkept half = absurd (unkept refl)
  half-said stop.OutOfMemory unread unkept half = inr half

  refused : (why : Stop) → IsInside why → (why ≡ stop.KeepFault → is_some (due_for_request accepts seat q) ≡ true) → IsRefused accepts q held held' kept kept' seat → IsStoppedBy accepts why q held held' kept kept' seat
  refused stop.ReadFault inside owed said = inside
  refused stop.WriteFault inside owed said = absurd inside
  refused stop.KeepFault inside owed said = (said, owed refl)
  refused stop.OutOfMemory inside owed said = inl said

-- an answer whose record is kept
module _ (accepts : Accepting) (q : Option Request) (held held' : Option (List ℕ)) (kept kept' : Option Journals) (seat : Seated) (text : List ℕ) (due : Option (List ℕ)) (answers : IsAnswer accepts seat q text) (is : due ≡ spelled_due (due_for_request accepts seat q)) (adds : AddsDue kept kept' seat.member due) where
  pub line_served : (seat' : Seated) → Appends held held' text → seat' ≡ seat_behind_request accepts seat q → IsServed accepts q held held' kept kept' seat seat'
  line_served seat' writes becomes = record { text = text; answers = answers; writes = writes; keeps = adds_left kept kept' seat.member due (due_for_request accepts seat q) is adds; becomes = becomes }

  pub line_half_said : (why : Stop) (given : Result (Unit {0}) Stop) → given ≡ Err why → (given ≡ Err stop.ReadFault → ⊥) × (given ≡ Err stop.KeepFault → ⊥) → AppendsFront held held' text → IsStoppedBy accepts why q held held' kept kept' seat
  line_half_said why given said only writes =
      half-said accepts q held held' kept kept' seat why (λ e. only.0 (said ∙ ap (λ (s : Stop). Err s) e)) (λ e. only.1 (said ∙ ap (λ (s : Stop). Err s) e))
      (record { text = text; answers = answers; writes = writes; keeps = adds_left kept kept' seat.member due (due_for_request accepts seat q) is adds })

-- no answer: the record may be kept
module _ (accepts : Accepting) (q : Option Request) (held : Option (List ℕ)) (kept kept' : Option Journals) (seat : Seated) where
  pub line_refused : (due : Option (List ℕ)) → due ≡ spelled_due (due_for_request accepts seat q) → (why : Stop) (given : Result (Unit {0}) Stop) → given ≡ Err why → IsInside why → (given ≡ Err stop.KeepFault → is_some due ≡ true) → MayAddDue kept kept' seat.member due
      → IsStoppedBy accepts why q held held kept kept' seat
  line_refused due is why given said inside owed adds =
      refused accepts q held held kept kept' seat why inside (λ e. is_owed due (due_for_request accepts seat q) is (owed (said ∙ ap (λ (s : Stop). Err s) e)))
      (record { writes = held_same held; keeps = may_add_left kept kept' seat.member due (due_for_request accepts seat q) is adds })

  pub line_lacked : KeepsJournals kept kept' → IsStoppedBy accepts stop.OutOfMemory q held held kept kept' seat
  line_lacked keeps = inl (record { writes = held_same held; keeps = inr keeps })

module _ (accepts : Accepting) (held held' : Option (List ℕ)) (kept : Option Journals) (seat : Seated) where
  pub bad_served : Appends held held' (ended bad_request_text) → IsServed accepts None held held' kept kept seat seat
  bad_served writes = record { text = ended bad_request_text; answers = refl; writes = writes; keeps = keeps_same kept; becomes = refl }

  pub bad_half_said : (why : Stop) (given : Result (Unit {0}) Stop) → given ≡ Err why → (given ≡ Err stop.ReadFault → ⊥) × (given ≡ Err stop.KeepFault → ⊥) → AppendsFront held held' (ended bad_request_text) → IsStoppedBy accepts why None held held' kept kept seat
  bad_half_said why given said only writes =
      half-said accepts None held held' kept kept seat why (λ e. only.0 (said ∙ ap (λ (s : Stop). Err s) e)) (λ e. only.1 (said ∙ ap (λ (s : Stop). Err s) e))
      (record { text = ended bad_request_text; answers = refl; writes = writes; keeps = keeps_same kept })

-- ---- a line

in_short : (line : List ℕ) → length line ≤ longest_line → request_of line ≡ request_in line
in_short line few = go (leb (length line) longest_line) refl
  where
    never : leb (length line) longest_line ≡ false → ⊥
    never e = grind (arith, nat_tests)

    go : (b : Bool) → leb (length line) longest_line ≡ b → request_of line ≡ cond b (request_of line) None
    go true e = refl
    go false e = absurd (never e)

in_long : (line : List ℕ) → longest_line < length line → None ≡ request_in line
in_long line many = go (leb (length line) longest_line) refl
  where
    never : leb (length line) longest_line ≡ true → ⊥
    never e = grind (arith, nat_tests)

    go : (b : Bool) → leb (length line) longest_line ≡ b → None ≡ cond b (request_of line) None
    go true e = absurd (never e)
    go false e = refl

module _ (accepts : Accepting) (pending pending' : List ℕ) (left left' held held' : Option (List ℕ)) (kept kept' : Option Journals) (seat seat' : Seated) where
  served : (line : List ℕ) → ReadsLine pending pending' left left' line → IsServed accepts (request_in line) held held' kept kept' seat seat' → Next accepts (around pending left held kept seat) (around pending' left' held' kept' seat') true
  served line reads s = (record { line = line; text = s.text }, record { reads = reads; answers = s.answers; writes = s.writes; keeps = s.keeps; seat = s.becomes })

  pub next_line : (line : List ℕ) → Reads pending pending' left left' (got.Line line) → IsServed accepts (request_of line) held held' kept kept' seat seat' → Next accepts (around pending left held kept seat) (around pending' left' held' kept' seat') true
  next_line line (reads, few) s = served line reads (subst (λ (q : Option Request). IsServed accepts q held held' kept kept' seat seat') (in_short line few) s)

  pub next_long : Reads pending pending' left left' got.TooLong → IsServed accepts None held held' kept kept' seat seat' → Next accepts (around pending left held kept seat) (around pending' left' held' kept' seat') true
  next_long (line, reads, many) s = served line reads (subst (λ (q : Option Request). IsServed accepts q held held' kept kept' seat seat') (in_long line many) s)

  unanswered : (line : List ℕ) → ReadsLine pending pending' left left' line → IsRefused accepts (request_in line) held held' kept kept' seat → IsCutAt accepts (around pending left held kept seat) (around pending' left' held' kept' seat')
  unanswered line reads s = inr (inl (record { line = line; reads = reads; writes = s.writes; keeps = s.keeps }))

  handed : (line : List ℕ) → ReadsLine pending pending' left left' line → IsHalfSaid accepts (request_in line) held held' kept kept' seat → IsUnwritten accepts (around pending left held kept seat) (around pending' left' held' kept' seat')
  handed line reads s = record { exchange = record { line = line; text = s.text }; reads = reads; answers = s.answers; writes = s.writes; keeps = s.keeps }

  cut : (line : List ℕ) (why : Stop) → ReadsLine pending pending' left left' line → IsStoppedBy accepts why (request_in line) held held' kept kept' seat → IsCutBy accepts why (around pending left held kept seat) (around pending' left' held' kept' seat')
  cut line stop.ReadFault reads s = absurd s
  cut line stop.WriteFault reads s = handed line reads s
  cut line stop.KeepFault reads s = record { line = line; reads = reads; owed = s.1; writes = s.0.writes; keeps = s.0.keeps }
  cut line stop.OutOfMemory reads (inl s) = unanswered line reads s
  cut line stop.OutOfMemory reads (inr s) = inr (inr (handed line reads s))

  pub cut_line : (line : List ℕ) (why : Stop) → Reads pending pending' left left' (got.Line line) → IsStoppedBy accepts why (request_of line) held held' kept kept' seat → IsCutBy accepts why (around pending left held kept seat) (around pending' left' held' kept' seat')
  cut_line line why (reads, few) s = cut line why reads (subst (λ (q : Option Request). IsStoppedBy accepts why q held held' kept kept' seat) (in_short line few) s)

  pub cut_long : (why : Stop) → Reads pending pending' left left' got.TooLong → IsStoppedBy accepts why None held held' kept kept' seat → IsCutBy accepts why (around pending left held kept seat) (around pending' left' held' kept' seat')
  cut_long why (line, reads, many) s = cut line why reads (subst (λ (q : Option Request). IsStoppedBy accepts why q held held' kept kept' seat) (in_long line many) s)

-- ---- no line more

module _ (accepts : Accepting) (pending pending' : List ℕ) (left left' held : Option (List ℕ)) (kept : Option Journals) (seat : Seated) where
  pub next_over : Reads pending pending' left left' got.End → Next accepts (around pending left held kept seat) (around pending' left' held kept seat) false
  next_over ends = record { ends = ends; writes = refl; keeps = refl }

-- nothing of a line was read
module _ (accepts : Accepting) (pending pending' : List ℕ) (left left' held : Option (List ℕ)) (kept kept' : Option Journals) (seat : Seated) where
  pub cut_unread : (given : OutFault) → KeepsJournals kept kept' → IsCutBy accepts (unread given) (around pending left held kept seat) (around pending' left' held kept' seat)
  cut_unread out.Failed keeps = record { writes = held_same held; keeps = keeps }
  cut_unread out.OutOfMemory keeps = inl (record { writes = held_same held; keeps = keeps })
